-- A row of a matrix as the list of its entries that are not zero, and sums of such rows.
use Rattle.std.specs.Prelude.{ℕ, ◌+◌, ◌*◌, ◌%◌, ◌<◌, ◌≤◌, ◌≡◌, List, length, take, map, slice_index_or}
use Rattle.linear_algebra.specs.Parts.{skip, unskip}
use Rattle.row_entries.specs.declared.entry.Entry.{Entry}
pub use Rattle.row_entries.specs.Rows.{Item, number_at, item_or, EndsBefore, IsRising, IsEntryRow, with_last, has_number, IsPlaceFrom}

-- the list of a row, how many columns the row has, and for how many it has room
pub record Row : Type 0 where
  pub width : ℕ
  pub room : ℕ
  pub items : List Item

-- out is xs with k times ys added to it
abbrev pub IsSum : ℕ → ℕ → List Item → List Item → List Item → Type 0
IsSum p k xs ys out = (j : ℕ) → number_at out j ≡ (number_at xs j + k * number_at ys j) % p

-- out is k times xs
abbrev pub IsMultiple : ℕ → ℕ → List Item → List Item → Type 0
IsMultiple p k xs out = (j : ℕ) → number_at out j ≡ k * number_at xs j % p

-- out is the sum of the first i items of xs and k times the first t items of ys, and ends before the next ones;
-- both rows have w columns
pub record IsMerged (p k w : ℕ) (xs ys out : List Item) (i t : ℕ) : Type 0 where
  pub first_place : i ≤ length xs
  pub second_place : t ≤ length ys
  pub sums : IsSum p k (take i xs) (take t ys) out
  pub before_first : EndsBefore out (item_or w xs i).column
  pub before_second : EndsBefore out (item_or w ys t).column

-- an entry at another column
abbrev pub entry_moved : {T : Type 0} → (ℕ → ℕ) → Entry T → Entry T
entry_moved f e = record e { column = f e.column }

-- an item at another column
abbrev pub at_column : (ℕ → ℕ) → Item → Item
at_column f x = record { column = f x.column; number = x.number }

-- the items where a column v comes in, at which none stands
abbrev pub columns_raised : ℕ → List Item → List Item
columns_raised v xs = map (at_column (skip v)) xs

-- the items where column v goes, at which none stands
abbrev pub columns_lowered : ℕ → List Item → List Item
columns_lowered v xs = map (at_column (unskip v)) xs

-- a row with a column v more, at which it has no item
abbrev pub row_raised : ℕ → Row → Row
row_raised v r = record { width = r.width + 1; room = r.room; items = columns_raised v r.items }

-- s is the row r without column v
pub record IsRowCut (v : ℕ) (r s : Row) : Type 0 where
  pub width_less : s.width + 1 ≡ r.width
  pub room_same : s.room ≡ r.room
  pub numbers : (j : ℕ) → number_at s.items j ≡ number_at r.items (skip v j)

-- s is the row r, with as much room or more
pub record IsRowWidened (r s : Row) : Type 0 where
  pub width_same : s.width ≡ r.width
  pub items_same : s.items ≡ r.items
  pub room_more : r.room ≤ s.room

-- rows of which each has changed so
pub record AreRowsChanged (Changes : Row → Row → Type 0) (rows now : List Row) : Type 0 where
  pub count : length now ≡ length rows
  pub changed : (i : ℕ) (d : Row) → i < length rows → Changes (slice_index_or rows i d) (slice_index_or now i d)
