-- The entries of one equation: what stands at the places of its row.
use Rattle.std.specs.Prelude.{◌≡◌, ℕ, ◌+◌, ◌<◌, ◌≤◌, Bool, true, false, ◌||◌, List, [], ◌∷◌, nat_eq, if◌then◌else◌, Option, Some, None}
use Rattle.std.specs.Prelude.{is_some, length, map, slice_index_or, slice_set, Result, Ok, Err, All}
use Rattle.std.specs.List.{AllWithin}
use Rattle.std.specs.declared.vec.Vec.{Vec}
use Rattle.mixed_model.specs.declared.errors.AddError.{AddError}
use Rattle.mixed_model.specs.declared.errors.AddError.TheVariants.{Twice}
use Rattle.mixed_model.specs.Entries.{RowEntry}

-- the entry at a column, where there is one
abbrev pub entry_in : List RowEntry → ℕ → Option RowEntry
entry_in [] column = None
entry_in (entry ∷ row) column = if nat_eq entry.column column then Some entry else entry_in row column

-- the constant at a place, where there is one
abbrev pub constant_at_place : Option RowEntry → Option ℕ
constant_at_place None = None
constant_at_place (Some entry) = entry.constant

-- whether a symbol stands at a place
abbrev pub symbol_at_place : Option RowEntry → Bool
symbol_at_place None = false
symbol_at_place (Some entry) = entry.symbol

-- the constant at a column, where there is one
abbrev pub constant_in : List RowEntry → ℕ → Option ℕ
constant_in row column = constant_at_place (entry_in row column)

-- whether a symbol stands at a column
abbrev pub symbol_in : List RowEntry → ℕ → Bool
symbol_in row column = symbol_at_place (entry_in row column)

-- an entry has a constant, which is a residue modulo p other than 0, or a symbol, or both
pub record IsNotEmpty (p : ℕ) (entry : RowEntry) : Type 0 where
  pub some : (is_some entry.constant || entry.symbol) ≡ true
  pub positive : (constant : ℕ) → entry.constant ≡ Some constant → 0 < constant
  pub residue : (constant : ℕ) → entry.constant ≡ Some constant → constant < p

-- columns rise from the first one on, and no entry is empty
abbrev pub RisesFrom : ℕ → ℕ → List RowEntry → Type 0
RisesFrom p first [] = Unit {0}
RisesFrom p first (entry ∷ row) = (first ≤ entry.column) × IsNotEmpty p entry × RisesFrom p (entry.column + 1) row

-- A row: entries by rising column, none of them empty.
abbrev pub IsRow : ℕ → List RowEntry → Type 0
IsRow p row = RisesFrom p 0 row

-- each column is below so many
abbrev pub AreColumnsBelow : ℕ → List RowEntry → Type 0
AreColumnsBelow columns row = All (λ entry. entry.column < columns) row

-- What putting a constant at a column answers while there is memory.
abbrev pub putting : List RowEntry → ℕ → Result (Unit {0}) AddError
putting row column = if is_some (constant_in row column) then Err Twice else Ok tt

-- What putting a symbol there answers.
abbrev pub putting_symbol : List RowEntry → ℕ → Result (Unit {0}) AddError
putting_symbol row column = if symbol_in row column then Err Twice else Ok tt

-- the columns before the place are lower, and those from it on are higher
pub record FitsBetween (row : List RowEntry) (place column : ℕ) : Type 0 where
  pub within : place ≤ length row
  pub before : AllWithin (λ entry. entry.column < column) row 0 place
  pub after : AllWithin (λ entry. column < entry.column) row place (length row)

-- the entry at a place of the row is the one at its column
pub record StandsAt (row : List RowEntry) (place column : ℕ) : Type 0 where
  pub within : place < length row
  pub column_is : (d : RowEntry) → (slice_index_or row place d).column ≡ column
  pub found : (d : RowEntry) → entry_in row column ≡ Some (slice_index_or row place d)

-- The row after an entry is put at its column: it stands there, and the other columns stay as they were.
pub record PutsEntry (p : ℕ) (old new : List RowEntry) (entry : RowEntry) : Type 0 where
  pub entries : (other : ℕ) → entry_in new other
      ≡ (if nat_eq entry.column other then Some entry else entry_in old other)
  pub row : IsRow p new
  pub within : (columns : ℕ) → entry.column < columns → AreColumnsBelow columns old → AreColumnsBelow columns new

-- The row after a constant is put at a column: it stands there, and all else stays as it was.
pub record PutsConstant (p column constant : ℕ) (old new : List RowEntry) : Type 0 where
  pub constants : (other : ℕ) → constant_in new other
      ≡ (if nat_eq column other then Some constant else constant_in old other)
  pub symbols : (other : ℕ) → symbol_in new other ≡ symbol_in old other
  pub row : IsRow p new
  pub within : (columns : ℕ) → column < columns → AreColumnsBelow columns old → AreColumnsBelow columns new

-- The row after a symbol is put at a column: it stands there, and all else stays as it was.
pub record PutsSymbol (p column : ℕ) (old new : List RowEntry) : Type 0 where
  pub constants : (other : ℕ) → constant_in new other ≡ constant_in old other
  pub symbols : (other : ℕ) → symbol_in new other ≡ (nat_eq column other || symbol_in old other)
  pub row : IsRow p new
  pub within : (columns : ℕ) → column < columns → AreColumnsBelow columns old → AreColumnsBelow columns new

-- The row after a column is set: just this constant and this symbol are there, and all else stays as it was.
pub record SetsColumn (p column : ℕ) (constant : Option ℕ) (symbol : Bool) (old new : List RowEntry) : Type 0 where
  pub constants : (other : ℕ) → constant_in new other
      ≡ (if nat_eq column other then constant else constant_in old other)
  pub symbols : (other : ℕ) → symbol_in new other ≡ (if nat_eq column other then symbol else symbol_in old other)
  pub row : IsRow p new
  pub within : (columns : ℕ) → column < columns → AreColumnsBelow columns old → AreColumnsBelow columns new

-- the rows in a vector of vectors
abbrev pub rows_of : {A B : Type 0} → Vec (Vec RowEntry A) B → List (List RowEntry)
rows_of rows = map (λ row. row.items) rows.items

-- one of some rows that are vectors
abbrev pub row_entries_at : {A : Type 0} → List (Vec RowEntry A) → ℕ → List RowEntry
row_entries_at rows i = slice_index_or (map (λ row. row.items) rows) i []

-- One row is changed so, and the others stay.
pub record ChangesRow
    (Change : List RowEntry → List RowEntry → Type 0) (i : ℕ) (old new : List (List RowEntry)) : Type 0 where
  pub row : List RowEntry
  pub change : Change (slice_index_or old i []) row
  pub rows : new ≡ slice_set old i row
