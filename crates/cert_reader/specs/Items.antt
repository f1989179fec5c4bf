-- Rising items, read to where no item stands.
use Rattle.std.specs.Prelude.{ℕ, zero, suc, ◌+◌, ◌-◌, List, [], ◌∷◌, length, codes, Bool, not, ◌&&◌, Result, Ok, Err, nat_lt, if◌then◌else◌}
use Rattle.cert_reader.specs.Fronts.{◌>>=◌, text_at, number_at, begins_with}

-- the index, from `low` on and below n, of a number that is counted from 1
unfoldable pub index_at : ℕ → ℕ → ℕ → List ℕ → Result (ℕ × List ℕ) ℕ
index_at n low line bytes = do
  number ← number_at n line bytes
  if nat_lt low number.0 then Ok (number.0 - 1, number.1) else Err line

-- a number from 1 to the limit
unfoldable pub positive_at : ℕ → ℕ → List ℕ → Result (ℕ × List ℕ) ℕ
positive_at limit line bytes = do
  number ← number_at limit line bytes
  if nat_lt 0 number.0 then Ok (number.0, number.1) else Err line

-- a row or a column behind a mark
unfoldable pub marked_at : List ℕ → ℕ → ℕ → ℕ → List ℕ → Result (ℕ × List ℕ) ℕ
marked_at mark n low line bytes = do
  behind ← text_at mark line bytes
  index_at n low line behind.1

-- `i=c`, of m rows and n columns
unfoldable pub pair_at : ℕ → ℕ → ℕ → ℕ → List ℕ → Result ((ℕ × ℕ) × List ℕ) ℕ
pair_at m n low line bytes = do
  space ← text_at (codes " ") line bytes
  row ← index_at m low line space.1
  equals ← text_at (codes "=") line row.1
  column ← index_at n 0 line equals.1
  Ok ((row.0, column.0), column.1)

-- `c=v`, of n columns and values below the modulus
unfoldable pub entry_at : ℕ → ℕ → ℕ → ℕ → List ℕ → Result ((ℕ × ℕ) × List ℕ) ℕ
entry_at modulus n low line bytes = do
  space ← text_at (codes " ") line bytes
  column ← index_at n low line space.1
  equals ← text_at (codes "=") line column.1
  value ← positive_at (modulus - 1) line equals.1
  Ok ((column.0, value.0), value.1)

-- Items while one goes on, each from where the one before has ended. There are never more of them than bytes.
unfoldable pub items_at : {A : Type 0} → (List ℕ → Bool) → (A → ℕ) → (ℕ → ℕ → List ℕ → Result (A × List ℕ) ℕ) →
    ℕ → ℕ → ℕ → List ℕ → Result (List A × List ℕ) ℕ
items_at goes_on after item zero low line bytes = Ok ([], bytes)
items_at goes_on after item (suc most) low line bytes = if goes_on bytes then (do
  x ← item low line bytes
  xs ← items_at goes_on after item most (after x.0) line x.1
  Ok (x.0 ∷ xs.0, xs.1)) else Ok ([], bytes)

-- a space, and no bar behind it
abbrev pub goes_on : List ℕ → Bool
goes_on bytes = begins_with (codes " ") bytes && not (begins_with (codes " |") bytes)

-- the rising columns or blocks, below n
abbrev pub numbers_at : ℕ → ℕ → List ℕ → Result (List ℕ × List ℕ) ℕ
numbers_at n line bytes =
    items_at goes_on (λ number. number + 1) (marked_at (codes " ") n) (length bytes) 0 line bytes

-- the rising rows behind their mark, below n
abbrev pub letters_at : List ℕ → ℕ → ℕ → List ℕ → Result (List ℕ × List ℕ) ℕ
letters_at mark n line bytes =
    items_at (λ bytes. begins_with mark bytes) (λ number. number + 1) (marked_at mark n) (length bytes) 0 line bytes

-- the rising rows below m, and their columns below n
abbrev pub pairs_at : ℕ → ℕ → ℕ → List ℕ → Result (List (ℕ × ℕ) × List ℕ) ℕ
pairs_at m n line bytes = items_at goes_on (λ pair. pair.0 + 1) (pair_at m n) (length bytes) 0 line bytes

-- the rising columns below n, and the values there
abbrev pub entries_at : ℕ → ℕ → ℕ → List ℕ → Result (List (ℕ × ℕ) × List ℕ) ℕ
entries_at modulus n line bytes =
    items_at goes_on (λ entry. entry.0 + 1) (entry_at modulus n) (length bytes) 0 line bytes
