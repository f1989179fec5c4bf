-- Rows of a matrix, as lists of numbers modulo p.
use Rattle.std.specs.Prelude.{ℕ, ◌*◌, ◌%◌, ◌<◌, ◌≡◌, List, [], ◌∷◌, length, slice_index, slice_index_or}
use Rattle.residue_theory.specs.Sums.{sum_below}

-- k times xs, entry by entry
abbrev pub multiple : ℕ → ℕ → List ℕ → List ℕ
multiple p k (x ∷ xs) = k * x % p ∷ multiple p k xs
multiple p k [] = []

-- `row` has w entries and is the sum of the rows, each times its coefficient
pub record IsRowSum (p : ℕ) (coefficients : List ℕ) (rows : List (List ℕ)) (w : ℕ) (row : List ℕ) : Type 0 where
  pub length_is : length row ≡ w
  pub sums : (j : ℕ) → j < w → slice_index row j ≡ sum_below (length rows) (λ t.
      slice_index coefficients t * slice_index (slice_index_or rows t []) j) % p
