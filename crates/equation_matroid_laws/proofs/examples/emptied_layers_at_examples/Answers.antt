use Rattle.std.proofs.Common.{◌≡◌, ℕ, refl, arith}
use Rattle.residue_theory.proofs.Primes.{prime_65521}
use Rattle.residue_theory.specs.Sets.{nothing}
use Rattle.mixed_matrices.specs.Examples.{split_matrix, split_model, split_origins}
use Rattle.mixed_matrices.specs.LayeredMatrices.{layered_value}
use Rattle.mixed_matrices.specs.Layerings.{gives_q, has_symbol}
use Rattle.mixed_matrices.specs.Removals.{mixed_part}
use Rattle.mixed_matrices.specs.StructuralRanks.{IsLayeredRank}
use Rattle.residue_theory.specs.Sets.{everything}
use Rattle.mixed_layering_laws.proofs.LayeringRank.{layering-law}
use Rattle.mixed_pair_laws.proofs.ExampleFacts.{split-layered}
use Rattle.mixed_pair_laws.proofs.PairRank.{greatest-unique}
use Rattle.equation_matroid_laws.proofs.EmptiedLayers.{emptied-layering}
use Rattle.equation_matroid_laws.proofs.Matroids.{largest_of-free}
use Rattle.equation_matroid_laws.proofs.RowRanks.{Free, equations, largest-rank}
use Rattle.equation_matroid_laws.specs.EquationRanks.{IsRankOf, emptied_layers}
use Rattle.equation_matroid_laws.proofs.examples.emptied_layers_at_examples.Goals as goal

no_rank : IsRankOf 65521 split_model nothing 0
no_rank = largest-rank 65521 prime_65521 split_model nothing 0
    (largest_of-free 1 (Free 65521 prime_65521 split_model) nothing (equations 65521 prime_65521 split_model (omega arith)).empty)

layers : IsLayeredRank 65521 (emptied_layers split_model split_origins nothing split_matrix) 1
layers = layering-law 65521 prime_65521 (mixed_part nothing everything split_model) (gives_q split_model) (has_symbol split_model)
    (emptied_layers split_model split_origins nothing split_matrix) split_origins
    (emptied-layering split_model (gives_q split_model) (has_symbol split_model) split_matrix split_origins split-layered nothing) (omega arith) 0 no_rank

pub returns-clause-holds : goal.returns-clause-holds
returns-clause-holds c = layers

pub returns-clause-fails : goal.returns-clause-fails
returns-clause-fails c = λ R. clash 1 refl
    (greatest-unique 65521 2 2 (layered_value (emptied_layers split_model split_origins nothing split_matrix)) 1 2 layers R)
  where
    clash : (x : ℕ) → x ≡ 1 → x ≡ 2 → ⊥
    clash x a b = omega arith
