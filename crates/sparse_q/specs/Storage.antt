-- How a sparse matrix is stored.
use Rattle.std.specs.Prelude.{ℕ, ◌+◌, ◌≤◌, ◌≡◌, List, length}
use Rattle.std.specs.List.{All}
use Rattle.limits.specs.Limits.{column_limit}
use Rattle.sparse_q.specs.Rows.{Item, Row, IsEntryRow}

-- a row of w columns, and room for an item at each
pub record IsKeptRow (p w most : ℕ) (xs : List Item) : Type 0 where
  pub row : IsEntryRow p w xs
  pub room : w ≤ most
  pub few : w ≤ column_limit

-- each row has w columns, and so has the spare one; there are at most 8,192 rows and columns
pub record AreSparseRows (w : ℕ) (rows : List Row) (spare : ℕ) : Type 0 where
  pub full : All (λ r. r.width ≡ w) rows
  pub spare_full : spare ≡ w
  pub few : length rows ≤ column_limit
  pub narrow : w ≤ column_limit

-- of so many columns each row has room for, the spare one too, and so many rows there are with those on the shelf; the
-- lists of both have room for as many
pub record HasShelf (rows shelf : List Row) (spare row_room column_room rows_capacity shelf_capacity : ℕ) : Type 0 where
  pub rows_wide : All (λ r. column_room ≤ r.room) rows
  pub shelf_wide : All (λ r. column_room ≤ r.room) shelf
  pub spare_wide : column_room ≤ spare
  pub few : column_room ≤ column_limit
  pub enough : row_room ≤ length rows + length shelf
  pub rows_fit : row_room ≤ rows_capacity
  pub shelf_fits : row_room ≤ shelf_capacity
