use Rattle.std.proofs.Common.{arith}
use Rattle.residue_theory.specs.Sets.{everything}
use Rattle.linear_algebra_laws.proofs.Ranks.{rank-unique}
use Rattle.mixed_matrices.specs.Examples.{split_matrix}
use Rattle.mixed_pair_laws.proofs.ExampleFacts.{split-rho}
use Rattle.mixed_pair_laws.proofs.examples.rho_at_examples.Goals as goal

pub returns-clause-holds : goal.returns-clause-holds
returns-clause-holds c = split-rho

pub returns-clause-fails : goal.returns-clause-fails
returns-clause-fails c two = omega (arith, rank-unique 65521 split_matrix.q 1 2 everything 1 2 split-rho two)
