-- Rows over some columns, each beside a right side, in echelon form: each has a 1 at its lead, and those after it have
-- 0 there. (Murota, chapter 2: elimination of the rows of a matrix.)
use Rattle.std.specs.Prelude.{ℕ, ◌+◌, ◌*◌, ◌%◌, ◌<◌, ◌≤◌, ◌≡◌, ◌≢◌, List, [], ◌∷◌, ◌++◌, length, slice_index, slice_index_or}
use Rattle.limits.specs.Limits.{column_limit}
use Rattle.residue_theory.specs.Sums.{sum_below}
use Rattle.row_entries.specs.Rows.{EndsBefore, Item, number_at}

-- a row: its lead, its right side and its entries
pub record PivotItems : Type 0 where
  pub lead : ℕ
  pub right : ℕ
  pub items : List Item

pub record EchelonState : Type 0 where
  pub width : ℕ
  pub rows : List PivotItems

-- row t, and past the last one an empty row
abbrev pub pivot_row : EchelonState → ℕ → PivotItems
pivot_row e t = slice_index_or e.rows t (record { lead = 0; right = 0; items = [] })

-- the number of row t at column j
abbrev pub pivot_number : EchelonState → ℕ → ℕ → ℕ
pivot_number e t j = number_at (pivot_row e t).items j

pub record IsEchelon (p : ℕ) (e : EchelonState) : Type 0 where
  pub narrow : e.width ≤ column_limit
  pub lead : (t : ℕ) → t < length e.rows → (pivot_row e t).lead < e.width
  pub within : (t : ℕ) → t < length e.rows → EndsBefore (pivot_row e t).items e.width
  pub one : (t : ℕ) → t < length e.rows → pivot_number e t (pivot_row e t).lead ≡ 1
  pub zero : (s t : ℕ) → s < t → t < length e.rows → pivot_number e t (pivot_row e s).lead ≡ 0

-- ---- rows of numbers
-- now is the row with `factor` times the entries added
pub record IsAddedTo (p factor : ℕ) (entries : List Item) (row now : List ℕ) : Type 0 where
  pub count : length now ≡ length row
  pub numbers : (j : ℕ) → j < length row →
      slice_index now j % p ≡ (slice_index row j + factor * number_at entries j) % p

-- the entries are those of a row of n numbers, times a factor
pub record AreEntriesOf (p factor n : ℕ) (row : List ℕ) (entries : List Item) : Type 0 where
  pub within : EndsBefore entries n
  pub numbers : (j : ℕ) → j < n → number_at entries j ≡ (slice_index row j * factor) % p

-- a row of n numbers and its right side, divided by its number at the lead
pub record IsDivided (p n : ℕ) (row : List ℕ) (lead right made_lead made_right : ℕ) (made : List Item) : Type 0 where
  pub same : made_lead ≡ lead
  pub within : EndsBefore made n
  pub one : number_at made lead ≡ 1
  pub some : slice_index row lead % p ≢ 0
  pub zero : (j : ℕ) → j < n → slice_index row j % p ≡ 0 → number_at made j ≡ 0
  pub numbers : (j : ℕ) → j < n → slice_index row j % p ≡ (slice_index row lead * number_at made j) % p
  pub right_side : right % p ≡ (slice_index row lead * made_right) % p

-- now is the row with multiples of the first m rows added, and its right side with those of theirs; it is 0 at their
-- leads
pub record IsRowReduced (p : ℕ) (e : EchelonState) (m : ℕ) (row : List ℕ) (right : ℕ) (now : List ℕ) (left : ℕ)
    : Type 0 where
  pub by : ℕ → ℕ
  pub count : length now ≡ length row
  pub numbers : (j : ℕ) → j < e.width → slice_index now j % p
      ≡ (slice_index row j + sum_below m (λ t. by t * pivot_number e t j)) % p
  pub right_side : left % p ≡ (right + sum_below m (λ t. by t * (pivot_row e t).right)) % p
  pub zero : (t : ℕ) → t < m → slice_index now (pivot_row e t).lead % p ≡ 0

-- ---- what a call tells
-- a row with its right side joined: with multiples of the rows before it is a multiple, not by 0, of the new last row
pub record JoinsEchelon (p : ℕ) (old new : EchelonState) (row : List ℕ) (right : ℕ) : Type 0 where
  pub last : PivotItems
  pub rows : new.rows ≡ old.rows ++ last ∷ []
  pub width : new.width ≡ old.width
  pub by : ℕ → ℕ
  pub scale : ℕ
  pub some : scale % p ≢ 0
  pub numbers : (j : ℕ) → j < old.width →
      (slice_index row j + sum_below (length old.rows) (λ t. by t * pivot_number old t j)) % p
      ≡ (scale * number_at last.items j) % p
  pub right_side : (right + sum_below (length old.rows) (λ t. by t * (pivot_row old t).right)) % p
      ≡ (scale * last.right) % p

-- with multiples of the rows a row is 0
pub record IsRowCombined (p : ℕ) (e : EchelonState) (row : List ℕ) : Type 0 where
  pub by : ℕ → ℕ
  pub numbers : (j : ℕ) → j < e.width →
      (slice_index row j + sum_below (length e.rows) (λ t. by t * pivot_number e t j)) % p ≡ 0

-- x has a number for each column, with which the rows from m on give their right sides; it is 0 at the leads of those
-- before
pub record SolvesRows (p : ℕ) (e : EchelonState) (m : ℕ) (x : List ℕ) : Type 0 where
  pub count : length x ≡ e.width
  pub rows : (t : ℕ) → m ≤ t → t < length e.rows →
      sum_below e.width (λ j. slice_index x j * pivot_number e t j) % p ≡ (pivot_row e t).right % p
  pub rest : (t : ℕ) → t < m → t < length e.rows → slice_index x (pivot_row e t).lead ≡ 0
