use Rattle.std.proofs.Common.{◌≡◌, ◌≤◌, ℕ}
use Rattle.mixed_matrices.specs.Models.{value}
use Rattle.mixed_matrices.specs.StructuralRanks.{IsStructuralRank}
use Rattle.mixed_pair_laws.proofs.GreatestRanks.{greatest-size, mixed-rank_exists}
use Rattle.mixed_pair_laws.proofs.PairRank.{greatest-unique}
use Rattle.mixed_pair_laws.proofs.structural_rank_laws.each_model_has_one_rank.Goals as goal

pub returns : goal.returns
returns c p prime M = go (mixed-rank_exists p prime M)
  where
    go : (r : ℕ) × IsStructuralRank p M r → (r : ℕ) × IsStructuralRank p M r × ((s : ℕ) → IsStructuralRank p M s → s ≡ r) × (r ≤ M.rows) × (r ≤ M.columns)
    go (r, R) = let b : (r ≤ M.rows) × (r ≤ M.columns) = greatest-size p prime M.rows M.columns (value M) r R in
        (r, R, (λ s S. greatest-unique p M.rows M.columns (value M) s r S R), b.0, b.1)
