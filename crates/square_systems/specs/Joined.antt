-- Rows of a matrix that join an echelon one after another, each with its right side.
use Rattle.std.specs.Prelude.{ℕ, ◌*◌, ◌%◌, ◌<◌, ◌≡◌, List, length, slice_index}
use Rattle.residue_theory.specs.Sums.{sum_below}
use Rattle.dense_q.specs.Tables.{Table, entry}
use Rattle.row_echelon.specs.Echelons.{EchelonState, pivot_number, pivot_row}

-- the numbers are those of row i
pub record IsRowOf (p : ℕ) (table : Table) (i : ℕ) (row : List ℕ) : Type 0 where
  pub count : length row ≡ table.width
  pub numbers : (j : ℕ) → j < table.width → slice_index row j % p ≡ entry table i j % p

-- what row i of a, of n numbers, makes of x
abbrev pub row_times : ℕ → (ℕ → ℕ) → (ℕ → ℕ) → ℕ
row_times n x row = sum_below n (λ j. x j * row j)

-- the first m rows of a, with right sides b, have joined e: whatever x gives a multiple of the right sides in e gives
-- the same multiple of those of b, and what the rows make 0, those of e make 0
pub record AreJoined (p n : ℕ) (a : ℕ → ℕ → ℕ) (b : ℕ → ℕ) (e : EchelonState) (m : ℕ) : Type 0 where
  pub width : e.width ≡ n
  pub count : length e.rows ≡ m
  pub held : (d : ℕ) (x : ℕ → ℕ) →
      ((t : ℕ) → t < m → row_times n x (pivot_number e t) % p ≡ (d * (pivot_row e t).right) % p) →
      (k : ℕ) → k < m → row_times n x (a k) % p ≡ (d * b k) % p
  pub kernel : (x : ℕ → ℕ) → ((k : ℕ) → k < m → row_times n x (a k) % p ≡ 0) →
      (t : ℕ) → t < m → row_times n x (pivot_number e t) % p ≡ 0

-- some row is a combination of those before it: what they make 0, it makes 0
abbrev pub HasDependentRow : ℕ → ℕ → ℕ → (ℕ → ℕ → ℕ) → Type 0
HasDependentRow p m n a = (i : ℕ) × (i < m) ×
    ((x : ℕ → ℕ) → ((k : ℕ) → k < i → row_times n x (a k) % p ≡ 0) → row_times n x (a i) % p ≡ 0)
