-- The places of the columns, kept as lists.
use Rattle.std.specs.Prelude.{ℕ, ◌+◌, ◌-◌, ◌<◌, ◌≤◌, ◌≡◌, ◌∷◌, ◌++◌, Bool, true, false, cond, eqb, not, ltb, max}
use Rattle.std.specs.Prelude.{List, [], length, map, slice_index, slice_index_or, slice_set}
use Rattle.std.specs.List.{insert, remove, swap_remove}
use Rattle.linear_algebra.specs.Parts.{skip, unskip}
use Rattle.limits.specs.Limits.{column_limit}
use Rattle.row_table.specs.Places.{Places, HaveSlots}

-- so many columns; the column that is the unit column of each row; and for each column, the unit columns after the
-- others,
-- whether it is a unit column now, the row if it is, and the slot if it is not; and for how many rows and columns
-- there is room
pub record Layout : Type 0 where
  pub columns : ℕ
  pub basic : List ℕ
  pub units : List Bool
  pub unit_rows : List ℕ
  pub slots : List ℕ
  pub row_room : ℕ
  pub column_room : ℕ

abbrev pub rows_of_layout : Layout → ℕ
rows_of_layout l = length l.basic

-- how many columns there are, the unit columns with them
abbrev pub all : Layout → ℕ
all l = l.columns + length l.basic

abbrev pub layout_places : Layout → Places
layout_places l = record {
  basic = λ i. slice_index l.basic i;
  is_unit = λ c. slice_index_or l.units c false;
  row = λ c. slice_index l.unit_rows c;
  slot = λ c. slice_index l.slots c;
}

-- the lists with column v as the unit column of row r, and the slot of v for the one that was it
abbrev pub moved : Layout → ℕ → ℕ → Layout
moved l r v = record {
  columns = l.columns;
  basic = slice_set l.basic r v;
  units = slice_set (slice_set l.units (slice_index l.basic r) false) v true;
  unit_rows = slice_set l.unit_rows v r;
  slots = slice_set l.slots (slice_index l.basic r) (slice_index l.slots v);
  row_room = l.row_room;
  column_room = l.column_room;
}

-- the lists with room for at least so many rows and columns
abbrev pub with_list_room : Layout → ℕ → ℕ → Layout
with_list_room l rows columns = record l {
  row_room = max l.row_room rows;
  column_room = max l.column_room columns;
}

-- the lists with a row after the others, and column v as its unit column
abbrev pub layout_with_row : Layout → ℕ → Layout
layout_with_row l v = record l {
  basic = map (skip v) l.basic ++ v ∷ [];
  units = insert l.units v true;
  unit_rows = insert l.unit_rows v (length l.basic);
  slots = insert l.slots v 0;
}

-- the lists without row k and its unit column; the last row takes the place of k
abbrev pub layout_without_row : Layout → ℕ → Layout
layout_without_row l k = record l {
  basic = map (unskip (slice_index l.basic k)) (swap_remove l.basic k 0);
  units = remove l.units (slice_index l.basic k);
  unit_rows = remove (slice_set l.unit_rows (slice_index l.basic (length l.basic - 1)) k) (slice_index l.basic k);
  slots = remove l.slots (slice_index l.basic k);
}

-- the lists with a column v in a slot after the others
abbrev pub layout_with_column : Layout → ℕ → Layout
layout_with_column l v = record l {
  columns = l.columns + 1;
  basic = map (skip v) l.basic;
  units = insert l.units v false;
  unit_rows = insert l.unit_rows v 0;
  slots = insert l.slots v l.columns;
}

-- the lists without column v, whose slot the column takes that has the last one
abbrev pub layout_without_column : Layout → ℕ → Layout
layout_without_column l v = record l {
  columns = l.columns - 1;
  basic = map (unskip v) l.basic;
  units = remove l.units v;
  unit_rows = remove l.unit_rows v;
  slots = map (λ x. cond (eqb x (l.columns - 1)) (slice_index l.slots v) x) (remove l.slots v);
}

-- the list of the rows has room for so many rows, and those of the columns for as many columns and unit columns
pub record HasListRoom (l : Layout) (basic units unit_rows slots : ℕ) : Type 0 where
  pub basic_room : l.row_room ≤ basic
  pub units_room : l.row_room + l.column_room ≤ units
  pub rows_room : l.row_room + l.column_room ≤ unit_rows
  pub slots_room : l.row_room + l.column_room ≤ slots
  pub row_room_few : l.row_room ≤ column_limit
  pub column_room_few : l.column_room ≤ column_limit

-- the lists have an item for each row, or for each column, and the columns are placed
pub record IsLayout (l : Layout) : Type 0 where
  pub units_length : length l.units ≡ all l
  pub rows_length : length l.unit_rows ≡ all l
  pub slots_length : length l.slots ≡ all l
  pub placed : HaveSlots (rows_of_layout l) l.columns (all l) (layout_places l)
  pub narrow : l.columns ≤ column_limit
  pub few : rows_of_layout l ≤ column_limit

-- before any exchange each of the m last columns is a unit column, and each of the n others has the slot of its number
pub record IsFirst (m n : ℕ) (s : Places) : Type 0 where
  pub basic_is : (i : ℕ) → i < m → s.basic i ≡ n + i
  pub unit_is : (c : ℕ) → c < n + m → s.is_unit c ≡ not (ltb c n)
  pub row_is : (c : ℕ) → c < n + m → s.row c ≡ c - n
  pub slot_is : (c : ℕ) → c < n + m → s.slot c ≡ c
