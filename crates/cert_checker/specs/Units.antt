-- Unit columns, and how they are told.
use Rattle.std.specs.Prelude.{ℕ, ◌<◌, ◌≡◌, ◌≢◌, ◌⊎◌, List, [], length, slice_index, slice_index_or}
use Rattle.cert_text.specs.Readings.{matrix_of, pair_at, IsUnitColumn}

-- the column of each item is a unit column at its row, modulo p, in a matrix of m rows
abbrev pub AreUnits : ℕ → ℕ → List (List (ℕ × ℕ)) → List (ℕ × ℕ) → Type 0
AreUnits p m P base = (k : ℕ) → k < length base →
    IsUnitColumn p m (matrix_of P) (pair_at base k).0 (pair_at base k).1

-- at each column that an item of the first n has stands the row of such an item, and at each other one `rows`
pub record AreBaseMarks (rows columns : ℕ) (base : List (ℕ × ℕ)) (n : ℕ) (marks : List ℕ) : Type 0 where
  pub count : length marks ≡ columns
  pub set : (k : ℕ) → k < n → slice_index marks (pair_at base k).1 ≢ rows
  pub item : (j : ℕ) → j < columns → (slice_index marks j ≡ rows)
      ⊎ ((k : ℕ) × (k < n) × ((pair_at base k).0 ≡ slice_index marks j) × ((pair_at base k).1 ≡ j))

-- P is 1 at the first n items
abbrev pub AreOnes : List (List (ℕ × ℕ)) → List (ℕ × ℕ) → ℕ → Type 0
AreOnes P base n = (k : ℕ) → k < n → matrix_of P (pair_at base k).0 (pair_at base k).1 ≡ 1

-- the first n entries of row i stand at columns without a mark, or with the mark i
abbrev pub IsClear : ℕ → List ℕ → ℕ → List (ℕ × ℕ) → ℕ → Type 0
IsClear rows marks i entries n = (k : ℕ) → k < n →
    (slice_index marks (pair_at entries k).0 ≡ rows) ⊎ (slice_index marks (pair_at entries k).0 ≡ i)

-- and so do those of the first n of m rows
abbrev pub AreClear : ℕ → List ℕ → List (List (ℕ × ℕ)) → ℕ → Type 0
AreClear m marks P n = (i : ℕ) → i < n →
    IsClear m marks i (slice_index_or P i []) (length (slice_index_or P i []))
