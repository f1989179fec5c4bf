-- Patterns with a row or a column more, and with one less.
use Rattle.std.specs.Prelude.{ℕ, ◌+◌, ◌-◌, ◌<◌, ◌≤◌, List, length, map, max}
use Rattle.std.specs.List.{insert, remove}
use Rattle.linear_algebra.specs.Parts.{skip, unskip}
use Rattle.sparse_t.specs.Incidences.{Incidence, IsIncidence, AreRowsAt}
use Rattle.sparse_t.specs.Shelves.{ShelfLists, shelf_list}

-- a pattern, and for how many rows and columns there is room
pub record RoomyIncidence : Type 0 where
  pub pattern : Incidence
  pub row_room : ℕ
  pub column_room : ℕ

-- with room for at least so many rows and columns
abbrev pub with_pattern_room : RoomyIncidence → ℕ → ℕ → RoomyIncidence
with_pattern_room p rows columns = record p {
  row_room = max p.row_room rows;
  column_room = max p.column_room columns;
}

-- with the row put in as row v
abbrev pub row_inserted : Incidence → ℕ → List ℕ → Incidence
row_inserted p v row = record p { rows = insert p.rows v row }

-- without row v
abbrev pub row_removed : Incidence → ℕ → Incidence
row_removed p v = record p { rows = remove p.rows v }

-- with a column put in as column v, which no row touches
abbrev pub column_inserted : Incidence → ℕ → Incidence
column_inserted p v = record { width = p.width + 1; rows = map (map (skip v)) p.rows }

-- without column v, which no row touches
abbrev pub column_removed : Incidence → ℕ → Incidence
column_removed p v = record { width = p.width - 1; rows = map (map (unskip v)) p.rows }

-- beside the rows stand the rows of each column, and each list has room for as many numbers as there is room for
pub record IsRoomy (rows columns : ShelfLists) (row_room column_room : ℕ) : Type 0 where
  pub incidence : IsIncidence (record { width = length columns.lists; rows = rows.lists })
  pub rows_of : (j : ℕ) → j < length columns.lists → AreRowsAt
      (record { width = length columns.lists; rows = rows.lists }) j (shelf_list columns j)
  pub row_count : row_room ≤ rows.count
  pub row_width : column_room ≤ rows.width
  pub column_count : column_room ≤ columns.count
  pub column_width : row_room ≤ columns.width
