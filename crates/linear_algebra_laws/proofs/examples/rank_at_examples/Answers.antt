use Rattle.std.proofs.Common.{arith}
use Rattle.residue_theory.specs.Sets.{everything}
use Rattle.linear_algebra_laws.specs.Examples.{all_ones}
use Rattle.linear_algebra_laws.proofs.Ranks.{rank-unique}
use Rattle.linear_algebra_laws.proofs.ExampleFacts.{ones-rank}
use Rattle.linear_algebra_laws.proofs.examples.rank_at_examples.Goals as goal

pub returns-clause-holds : goal.returns-clause-holds
returns-clause-holds c = ones-rank

pub returns-clause-fails : goal.returns-clause-fails
returns-clause-fails c two = omega (arith, rank-unique 65521 all_ones 2 2 everything 2 1 two ones-rank)
