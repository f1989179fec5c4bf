-- The structural rank: the greatest rank over all values of the symbols (Murota, chapter 4).
use Rattle.std.specs.Prelude.{ℕ, ◌+◌, ◌≤◌}
use Rattle.residue_theory.specs.Sets.{everything}
use Rattle.linear_algebra.specs.Columns.{IsRank}
use Rattle.mixed_matrices.specs.Models.{MixedMatrix, value}
use Rattle.mixed_matrices.specs.LayeredMatrices.{LayeredMatrix, layered_value}

-- r is the greatest rank of the m by n matrices `at w`, over all values w
pub record IsGreatestRank (p m n : ℕ) (at : (ℕ → ℕ → ℕ) → ℕ → ℕ → ℕ) (r : ℕ) : Type 0 where
  pub reached : (w : ℕ → ℕ → ℕ) × IsRank p (at w) m n everything r
  pub greatest : (w : ℕ → ℕ → ℕ) (s : ℕ) → IsRank p (at w) m n everything s → s ≤ r

-- r is R(M)
abbrev pub IsStructuralRank : ℕ → MixedMatrix → ℕ → Type 0
IsStructuralRank p M r = IsGreatestRank p M.rows M.columns (value M) r

-- r is R(L)
abbrev pub IsLayeredRank : ℕ → LayeredMatrix → ℕ → Type 0
IsLayeredRank p L r = IsGreatestRank p (L.q_rows + L.t_rows) L.columns (layered_value L) r
