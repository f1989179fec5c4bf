-- T rows with the numbers of their symbols, and the right sides of the rows of a layered matrix.
use Rattle.std.specs.Prelude.{ℕ, ◌+◌, ◌-◌, ◌%◌, ◌<◌, ◌≡◌, ◌≢◌, cond, ltb, List, [], length, slice_index, slice_index_or}
use Rattle.residue_theory.specs.Sets.{has}
use Rattle.residue_theory.specs.Sums.{size_on, sum_below}

-- how many symbols of the first i of these T rows stand at unknowns, of which there are u
abbrev pub symbols_above : List (List ℕ) → ℕ → ℕ → ℕ
symbols_above rows u i = sum_below i (λ r. size_on (has (slice_index_or rows r [])) u)

-- the first n of the columns of a T row, each with its number: one of the values from `first` on at an unknown, of
-- which there are u, and -1 at an auxiliary column
pub record AreSymbolItems (p u first n : ℕ) (columns values : List ℕ) (row : List (ℕ × ℕ)) : Type 0 where
  pub count : length row ≡ n
  pub key : (h : ℕ) → h < n → (slice_index_or row h (0, 0)).0 ≡ slice_index columns h
  pub number : (h : ℕ) → h < n → (slice_index_or row h (0, 0)).1 % p
      ≡ cond (ltb (slice_index columns h) u) (slice_index values (first + h)) (p - 1) % p

-- the first n of the T rows, each with its numbers
pub record AreSymbolRows (p u n : ℕ) (t : List (List ℕ)) (values : List ℕ) (rows : List (List (ℕ × ℕ))) : Type 0 where
  pub count : length rows ≡ n
  pub row : (i : ℕ) → i < n → AreSymbolItems p u (symbols_above t u i) (length (slice_index_or t i []))
      (slice_index_or t i []) values (slice_index_or rows i [])

-- the number at row i, for each i below n, is that of its origin
pub record AreSidesAt (n : ℕ) (origins right sides : List ℕ) : Type 0 where
  pub count : length sides ≡ n
  pub side : (i : ℕ) → i < n → slice_index sides i ≡ slice_index right (slice_index origins i)

-- the right sides, with 0 at the first n of the origins
pub record LacksOrigins (n : ℕ) (origins right rest : List ℕ) : Type 0 where
  pub count : length rest ≡ length right
  pub gone : (i : ℕ) → i < n → slice_index rest (slice_index origins i) ≡ 0
  pub kept : (e : ℕ) → ((i : ℕ) → i < n → slice_index origins i ≢ e) → slice_index rest e ≡ slice_index right e
