-- A matrix as its rows of items, and as a function from a row and a column to a number, both counted from 0.
use Rattle.std.specs.Prelude.{ℕ, ◌+◌, ◌≡◌, ◌≢◌, Bool, List, [], length, map, max, slice_index_or}
use Rattle.std.specs.List.{insert, remove, swap}
use Rattle.linear_algebra.specs.Parts.{skip}
use Rattle.sparse_q.specs.Rows.{Item, number_at, has_number, columns_raised}

-- the rows, how many columns there are, and for how many rows and columns there is room
pub record SparseTable : Type 0 where
  pub width : ℕ
  pub rows : List (List Item)
  pub row_room : ℕ
  pub column_room : ℕ

-- how many rows there are
abbrev pub sparse_rows : SparseTable → ℕ
sparse_rows m = length m.rows

-- row i; past the last, the empty one
abbrev pub sparse_row : SparseTable → ℕ → List Item
sparse_row m i = slice_index_or m.rows i []

-- the number at row i and column j, and 0 outside
abbrev pub number_in : SparseTable → ℕ → ℕ → ℕ
number_in m i j = number_at (sparse_row m i) j

-- whether row i has a number at column j that is not zero
abbrev pub has_number_in : SparseTable → ℕ → ℕ → Bool
has_number_in m i = has_number (sparse_row m i)

-- m has h rows and w columns
pub record HasSize (h w : ℕ) (m : SparseTable) : Type 0 where
  pub rows_are : sparse_rows m ≡ h
  pub width_is : m.width ≡ w

-- m with room for at least so many rows and columns
abbrev pub with_room : SparseTable → ℕ → ℕ → SparseTable
with_room m rows columns = record m {
  row_room = max m.row_room rows;
  column_room = max m.column_room columns;
}

-- m with an empty row more, row i
abbrev pub with_empty_row : SparseTable → ℕ → SparseTable
with_empty_row m i = record m { rows = insert m.rows i [] }

-- m without row i
abbrev pub without_table_row : SparseTable → ℕ → SparseTable
without_table_row m i = record m { rows = remove m.rows i }

-- m with rows i and k in each other's place
abbrev pub with_table_rows_swapped : SparseTable → ℕ → ℕ → SparseTable
with_table_rows_swapped m i k = record m { rows = swap m.rows i k }

-- m with a column more, column v, at which no row has a number
abbrev pub with_empty_column : SparseTable → ℕ → SparseTable
with_empty_column m v = record m { width = m.width + 1; rows = map (columns_raised v) m.rows }

-- n is m without column v
pub record IsColumnTaken (m n : SparseTable) (v : ℕ) : Type 0 where
  pub rows_same : sparse_rows n ≡ sparse_rows m
  pub width_less : n.width + 1 ≡ m.width
  pub row_room : n.row_room ≡ m.row_room
  pub column_room : n.column_room ≡ m.column_room
  pub numbers : (i j : ℕ) → number_in n i j ≡ number_in m i (skip v j)

-- n is m with other numbers in row i: f tells them by their columns
pub record IsRowSet (m n : SparseTable) (i : ℕ) (f : ℕ → ℕ) : Type 0 where
  pub size : HasSize (sparse_rows m) m.width n
  pub row_room : n.row_room ≡ m.row_room
  pub column_room : n.column_room ≡ m.column_room
  pub changed : (j : ℕ) → number_in n i j ≡ f j
  pub others : (t j : ℕ) → t ≢ i → number_in n t j ≡ number_in m t j
