-- Rows of entries, beside numbers for their columns.
use Rattle.std.specs.Prelude.{ℕ, ◌+◌, ◌*◌, ◌%◌, ◌<◌, ◌≡◌, List, [], ◌∷◌, length, map, slice_index, slice_index_or}
use Rattle.std.specs.List.Sorted.{IsStrictlyIncreasing}

-- the entries of a row, each times the number of x at its column, together
abbrev pub row_sum : List (ℕ × ℕ) → List ℕ → ℕ
row_sum [] x = 0
row_sum (e ∷ es) x = slice_index x e.0 * e.1 + row_sum es x

-- the columns of a row's entries rise
abbrev pub AreKeysRising : List (ℕ × ℕ) → Type 0
AreKeysRising entries = IsStrictlyIncreasing (map (λ entry. entry.0) entries)

-- number i is the sum of row i for x
pub record AreRowSums (p : ℕ) (rows : List (List (ℕ × ℕ))) (x sums : List ℕ) : Type 0 where
  pub count : length sums ≡ length rows
  pub sum : (i : ℕ) → i < length rows → slice_index sums i % p ≡ row_sum (slice_index_or rows i []) x % p

-- now is old with n numbers more: what the numbers x leave of the right side of row `members k`, for each k below n
pub record PutsSides (p : ℕ) (old now : List ℕ) (n : ℕ) (rows : List (List (ℕ × ℕ)))
    (right members x : List ℕ) : Type 0 where
  pub count : length now ≡ length old + n
  pub left : (k : ℕ) → k < n →
      (slice_index now (length old + k) + row_sum (slice_index_or rows (slice_index members k) []) x) % p
      ≡ slice_index right (slice_index members k) % p
  pub before : (i : ℕ) → i < length old → slice_index now i ≡ slice_index old i
