-- A matrix as its rows, and as a function from a row and a column to an entry, both counted from 0.
use Rattle.std.specs.List.{All, swap}
use Rattle.std.specs.Prelude.{ℕ, ◌≡◌, ◌<◌, ◌≤◌, ◌%◌, ◌∷◌, ◌++◌, List, [], length, slice_index, slice_index_or, slice_set, replicate}
use Rattle.limits.specs.Limits.{column_limit}
use Rattle.linear_algebra.specs.Products.{product}

-- the rows, each a list of numbers, and how many columns there are: a matrix with no rows has columns too
pub record Table : Type 0 where
  pub width : ℕ
  pub rows : List (List ℕ)

-- how many rows there are
abbrev pub height : Table → ℕ
height m = length m.rows

-- row i; past the last, the empty one
abbrev pub row_at : Table → ℕ → List ℕ
row_at m i = slice_index_or m.rows i []

-- the entry at row i and column j, and 0 outside
abbrev pub entry : Table → ℕ → ℕ → ℕ
entry m i j = slice_index (row_at m i) j

-- each row has an entry for each column, and there are at most 8,192 rows and columns
pub record IsMatrix (m : Table) : Type 0 where
  pub full : All (λ row. length row ≡ m.width) m.rows
  pub few : height m ≤ column_limit
  pub narrow : m.width ≤ column_limit

-- each number of the rows is below p
abbrev pub AreResidues : ℕ → List (List ℕ) → Type 0
AreResidues p rows = All (λ row. All (λ number. number < p) row) rows

-- m and n have as many rows and as many columns
pub record HasSameSize (m n : Table) : Type 0 where
  pub height_same : height m ≡ height n
  pub width_same : m.width ≡ n.width

-- h rows and w columns of zeros
abbrev pub zero_table : ℕ → ℕ → Table
zero_table h w = record { width = w; rows = replicate h (replicate w 0) }

-- m with `row` as row i
abbrev pub with_row : Table → ℕ → List ℕ → Table
with_row m i row = record m { rows = slice_set m.rows i row }

-- m with x at row i and column j
abbrev pub table_with_entry : Table → ℕ → ℕ → ℕ → Table
table_with_entry m i j x = with_row m i (slice_set (row_at m i) j x)

-- m with rows i and j in each other's place
abbrev pub with_rows_swapped : Table → ℕ → ℕ → Table
with_rows_swapped m i j = record m { rows = swap m.rows i j }

-- m with `row` as a last row
abbrev pub with_last_row : Table → List ℕ → Table
with_last_row m row = record m { rows = m.rows ++ row ∷ [] }

-- m has h rows and w columns, with the entries of a
pub record IsTableOf (h w : ℕ) (a : ℕ → ℕ → ℕ) (m : Table) : Type 0 where
  pub height_is : height m ≡ h
  pub width_is : m.width ≡ w
  pub entries : (i j : ℕ) → i < h → j < w → entry m i j ≡ a i j

-- m is a * b, its entries below p
abbrev pub IsProduct : ℕ → Table → Table → Table → Type 0
IsProduct p a b m = IsTableOf (height a) b.width (λ i j. product a.width (entry a) (entry b) i j % p) m
