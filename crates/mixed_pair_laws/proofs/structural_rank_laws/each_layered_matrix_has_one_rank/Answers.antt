use Rattle.std.proofs.Common.{◌≡◌, ◌+◌, ◌≤◌, ℕ}
use Rattle.mixed_matrices.specs.LayeredMatrices.{layered_value}
use Rattle.mixed_matrices.specs.StructuralRanks.{IsLayeredRank}
use Rattle.mixed_pair_laws.proofs.BestPairs.{layered-rank_exists}
use Rattle.mixed_pair_laws.proofs.GreatestRanks.{greatest-size}
use Rattle.mixed_pair_laws.proofs.PairRank.{greatest-unique}
use Rattle.mixed_pair_laws.proofs.structural_rank_laws.each_layered_matrix_has_one_rank.Goals as goal

pub returns : goal.returns
returns c p prime L = go (layered-rank_exists p prime L)
  where
    go : (r : ℕ) × IsLayeredRank p L r → (r : ℕ) × IsLayeredRank p L r × ((s : ℕ) → IsLayeredRank p L s → s ≡ r) × (r ≤ L.q_rows + L.t_rows) × (r ≤ L.columns)
    go (r, R) = let b : (r ≤ L.q_rows + L.t_rows) × (r ≤ L.columns) = greatest-size p prime (L.q_rows + L.t_rows) L.columns (layered_value L) r R in
        (r, R, (λ s S. greatest-unique p (L.q_rows + L.t_rows) L.columns (layered_value L) s r S R), b.0, b.1)
