-- What holds between the searches of a loop that keeps the equations which may join.
use Rattle.std.specs.Prelude.{ℕ, ◌<◌, ◌≡◌, ◌≢◌, ◌%◌, Bool, true, false}
use Rattle.mixed_matrices.specs.LayeredMatrices.{LayeredMatrix}
use Rattle.mixed_matrices.specs.Layerings.{Origins}
use Rattle.mixed_matrices.specs.Tableaus.{Tableau}
use Rattle.row_choice_laws.specs.RowSearches.{IsOnRowsOf, is_bare_row, is_row_of, places}

-- all rows of the equations K have columns, and no other rows have; in the column of another equation's Q row, S has no
-- entry but its own
pub record KeepsEquations (p : ℕ) (L : LayeredMatrix) (O : Origins) (S : ℕ → ℕ → ℕ) (F : Tableau)
    (K : ℕ → Bool) : Type 0 where
  pub on : IsOnRowsOf p L O S F K
  pub used : (r : ℕ) → r < places L → is_row_of L O K r ≡ true → is_bare_row L F r ≡ false
  pub alone : (i k : ℕ) → i < L.q_rows → k < L.q_rows → K (O.of_q k) ≡ false → i ≢ k → S i k % p ≡ 0
  pub own : (k : ℕ) → k < L.q_rows → K (O.of_q k) ≡ false → S k k % p ≢ 0

-- a pivot at row r makes T of S: each column of S where row r is 0 stays
abbrev pub LeavesZeroColumns : ℕ → ℕ → (ℕ → ℕ → ℕ) → (ℕ → ℕ → ℕ) → ℕ → Type 0
LeavesZeroColumns p m S T r = (k : ℕ) → k < m → S r k % p ≡ 0 → (i : ℕ) → i < m → T i k % p ≡ S i k % p

-- T is S in the columns of the Q rows of other equations than K
abbrev pub IsSameOutside : ℕ → LayeredMatrix → Origins → (ℕ → Bool) → (ℕ → ℕ → ℕ) → (ℕ → ℕ → ℕ) → Type 0
IsSameOutside p L O K S T = (i k : ℕ) → i < L.q_rows → k < L.q_rows → K (O.of_q k) ≡ false → T i k % p ≡ S i k % p
