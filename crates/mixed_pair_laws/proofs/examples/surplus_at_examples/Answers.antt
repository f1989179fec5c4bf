use Rattle.std.proofs.Common.{arith}
use Rattle.residue_theory.proofs.Primes.{prime_65521}
use Rattle.mixed_matrices.specs.Examples.{split_model}
use Rattle.mixed_matrices.specs.Models.{value}
use Rattle.mixed_matrices.specs.Removals.{without_equation}
use Rattle.mixed_pair_laws.proofs.ExampleFacts.{split_model-rank, tall-rank, tall_short-rank}
use Rattle.mixed_pair_laws.proofs.GreatestRanks.{greatest-size}
use Rattle.mixed_pair_laws.proofs.PairRank.{greatest-unique}
use Rattle.mixed_pair_laws.proofs.examples.surplus_at_examples.Goals as goal

pub returns-clause-holds : goal.returns-clause-holds
returns-clause-holds c = (1, tall-rank, tall_short-rank)

pub returns-clause-fails : goal.returns-clause-fails
returns-clause-fails c (r, R, S) = omega (
  arith,
  greatest-unique 65521 1 1 (value split_model) r 1 R split_model-rank,
  (greatest-size 65521 prime_65521 0 1 (value (without_equation 0 split_model)) r S).0,
)
