use Rattle.std.proofs.Common.{arith}
use Rattle.mixed_matrices.specs.Examples.{split_matrix}
use Rattle.mixed_matrices.specs.LayeredMatrices.{layered_value}
use Rattle.mixed_pair_laws.proofs.ExampleFacts.{split-rank}
use Rattle.mixed_pair_laws.proofs.PairRank.{greatest-unique}
use Rattle.mixed_pair_laws.proofs.examples.layered_ranks_at_examples.Goals as goal

pub returns-clause-holds : goal.returns-clause-holds
returns-clause-holds c = split-rank

pub returns-clause-fails : goal.returns-clause-fails
returns-clause-fails c one = omega (arith, greatest-unique 65521 2 2 (layered_value split_matrix) 1 2 one split-rank)
