-- A row of a matrix as the list of its entries that are not zero.
use Rattle.std.specs.Prelude.{ℕ, ◌+◌, ◌<◌, ◌≤◌, ◌≢◌, Bool, not, List, [], ◌∷◌, ◌++◌, length, map, slice_index_or, cond, eqb}
use Rattle.row_entries.specs.declared.entry.Entry.{Entry}

-- a number and the column where it stands
pub record Item : Type 0 where
  pub column : ℕ
  pub number : ℕ

-- the number at column j, and 0 where there is none: the sum of the numbers that stand there
abbrev pub number_at : List Item → ℕ → ℕ
number_at [] j = 0
number_at (x ∷ xs) j = cond (eqb x.column j) x.number 0 + number_at xs j

-- the item at place i, and past the last one a zero at column w
abbrev pub item_or : ℕ → List Item → ℕ → Item
item_or w xs i = slice_index_or xs i (record { column = w; number = 0 })

-- each item stands below column c
abbrev pub EndsBefore : List Item → ℕ → Type 0
EndsBefore xs c = (i : ℕ) → i < length xs → (item_or 0 xs i).column < c

-- the columns rise
abbrev pub IsRising : List Item → Type 0
IsRising xs = (i j : ℕ) → i < j → j < length xs → (item_or 0 xs i).column < (item_or 0 xs j).column

-- the list of a row of w columns, with numbers below p
pub record IsEntryRow (p w : ℕ) (xs : List Item) : Type 0 where
  pub rising : IsRising xs
  pub narrow : EndsBefore xs w
  pub some : (i : ℕ) → i < length xs → (item_or 0 xs i).number ≢ 0
  pub below : (i : ℕ) → i < length xs → (item_or 0 xs i).number < p

-- xs with n at column c behind its last item; a zero is left out
abbrev pub with_last : List Item → ℕ → ℕ → List Item
with_last xs c n = cond (eqb n 0) xs (xs ++ record { column = c; number = n } ∷ [])

-- whether a number that is not zero stands at column j
abbrev pub has_number : List Item → ℕ → Bool
has_number xs j = not (eqb (number_at xs j) 0)

-- the items before place i stand before column c, and those from it on do not
pub record IsPlaceFrom (xs : List Item) (c i : ℕ) : Type 0 where
  pub within : i ≤ length xs
  pub before : (t : ℕ) → t < i → (item_or 0 xs t).column < c
  pub behind : (t : ℕ) → i ≤ t → t < length xs → c ≤ (item_or 0 xs t).column

-- what the entries of a row are, as numbers
abbrev pub items : {T : Type 0} → (T → ℕ) → List (Entry T) → List Item
items number entries = map (λ e. record { column = e.column; number = number e.value }) entries

-- the items as pairs of a column and a number
abbrev pub placed : List Item → List (ℕ × ℕ)
placed xs = map (λ x. (x.column, x.number)) xs
