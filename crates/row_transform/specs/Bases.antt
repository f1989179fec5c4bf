-- Which column is the base column of which row, kept as two lists, and how a base changes.
use Rattle.std.specs.Prelude.{ℕ, ◌+◌, ◌-◌, ◌^◌, ◌<◌, ◌≡◌, ◌≢◌, max, min, Bool, true, false, cond, eqb, List, length}
use Rattle.std.specs.Prelude.{Option, Some, None, is_some, unwrap_or, slice_index_or, slice_set}
use Rattle.linear_algebra.specs.Parts.{skip}

-- a count after so many more, as far as 64 bits have room for it
abbrev pub raised : ℕ → ℕ → ℕ
raised count more = count + min more (2 ^ 64 - 1 - count)

-- for each row perhaps its base column, and for each column perhaps the row whose base it is; and how many columns were
-- taken into the base since it was empty; and for how many rows and columns there is room
pub record BaseLists : Type 0 where
  pub columns : List (Option ℕ)
  pub rows : List (Option ℕ)
  pub takes : ℕ
  pub row_room : ℕ
  pub column_room : ℕ

-- column y is a base column
abbrev pub is_base : BaseLists → ℕ → Bool
is_base b y = is_some (slice_index_or b.rows y None)

-- the row of the base column y, and 0 where y is none
abbrev pub base_row : BaseLists → ℕ → ℕ
base_row b y = unwrap_or (slice_index_or b.rows y None) 0

-- b without the column that was the base column of a row
abbrev pub unlinked : BaseLists → ℕ → ℕ → BaseLists
unlinked b r y = record b { columns = slice_set b.columns r None; rows = slice_set b.rows y None }

-- b with a column taken as the base column of a row
abbrev pub linked : BaseLists → ℕ → ℕ → BaseLists
linked b r y = record b {
  columns = slice_set b.columns r (Some y);
  rows = slice_set b.rows y (Some r);
  takes = raised b.takes 1;
}

-- b with room for at least so many rows and columns
abbrev pub with_base_room : BaseLists → ℕ → ℕ → BaseLists
with_base_room b rows columns = record b {
  row_room = max b.row_room rows;
  column_room = max b.column_room columns;
}

-- c has the room of b, and as many columns were taken into it
pub record HasSameCounts (b c : BaseLists) : Type 0 where
  pub takes : c.takes ≡ b.takes
  pub row_room : c.row_room ≡ b.row_room
  pub column_room : c.column_room ≡ b.column_room

-- c is b with a row more, row k, which has no base column
pub record IsBaseRowIn (b c : BaseLists) (k : ℕ) : Type 0 where
  pub counts : HasSameCounts b c
  pub rows_are : length c.columns ≡ length b.columns + 1
  pub columns_same : length c.rows ≡ length b.rows
  pub base_same : (y : ℕ) → is_base c y ≡ is_base b y
  pub row_is : (y : ℕ) → is_base b y ≡ true → base_row c y ≡ skip k (base_row b y)

-- c is b where the base column of row r, if there is one, is that of row t
pub record IsBaseMoved (b c : BaseLists) (r t : ℕ) : Type 0 where
  pub counts : HasSameCounts b c
  pub rows_same : length c.columns ≡ length b.columns
  pub columns_same : length c.rows ≡ length b.rows
  pub bare : slice_index_or c.columns r None ≡ None
  pub base_same : (y : ℕ) → is_base c y ≡ is_base b y
  pub row_is : (y : ℕ) → is_base b y ≡ true → base_row c y ≡ cond (eqb (base_row b y) r) t (base_row b y)

-- c is b without row k, whose number the last row takes
pub record IsBaseRowOut (b c : BaseLists) (k : ℕ) : Type 0 where
  pub counts : HasSameCounts b c
  pub rows_are : length c.columns + 1 ≡ length b.columns
  pub columns_same : length c.rows ≡ length b.rows
  pub base_same : (y : ℕ) → is_base c y ≡ is_base b y
  pub row_is : (y : ℕ) → is_base b y ≡ true →
      base_row c y ≡ cond (eqb (base_row b y) (length c.columns)) k (base_row b y)

-- c is b with a column more, column v, which is no base column
pub record IsBaseColumnIn (b c : BaseLists) (v : ℕ) : Type 0 where
  pub counts : HasSameCounts b c
  pub rows_same : length c.columns ≡ length b.columns
  pub columns_are : length c.rows ≡ length b.rows + 1
  pub no_base : is_base c v ≡ false
  pub base_same : (y : ℕ) → is_base c (skip v y) ≡ is_base b y
  pub row_same : (y : ℕ) → base_row c (skip v y) ≡ base_row b y

-- c is b without column v
pub record IsBaseColumnOut (b c : BaseLists) (v : ℕ) : Type 0 where
  pub counts : HasSameCounts b c
  pub rows_same : length c.columns ≡ length b.columns
  pub columns_are : length c.rows + 1 ≡ length b.rows
  pub base_same : (y : ℕ) → is_base c y ≡ is_base b (skip v y)
  pub row_same : (y : ℕ) → base_row c y ≡ base_row b (skip v y)

-- row r has no base column now; all base columns of other rows stay. There are n columns; B and row are the base
-- before, C and now the base after
pub record IsRowOutOfBase (n : ℕ) (B : ℕ → Bool) (row : ℕ → ℕ) (C : ℕ → Bool) (now : ℕ → ℕ) (r : ℕ) : Type 0 where
  pub only : (y : ℕ) → y < n → C y ≡ true → (B y ≡ true) × (row y ≢ r) × (now y ≡ row y)
  pub kept : (y : ℕ) → y < n → B y ≡ true → row y ≢ r → C y ≡ true

-- column v is no base column now, and all others stay
pub record IsBaseDropped (n : ℕ) (B : ℕ → Bool) (row : ℕ → ℕ) (C : ℕ → Bool) (now : ℕ → ℕ) (v : ℕ) : Type 0 where
  pub gone : C v ≡ false
  pub others : (y : ℕ) → y < n → y ≢ v → C y ≡ B y
  pub rows : (y : ℕ) → y < n → y ≢ v → now y ≡ row y
