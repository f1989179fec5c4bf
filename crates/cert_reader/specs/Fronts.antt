-- Reading from the front of bytes, in the line with this number: a value and the bytes after it, or the number of the
-- line that is refused.
use Rattle.std.specs.Prelude.{◌≡◌, ◌<◌, ◌≤◌, ℕ, List, [], ◌∷◌, length, take, drop, slice_index_or, nat_eq, nat_le}
use Rattle.std.specs.Prelude.{Bool, true, false, not, ◌&&◌, ◌||◌, Result, Ok, Err, if◌then◌else◌}
use Rattle.std.specs.Char.{is_ascii_digit}
use Rattle.std.specs.List.{before_first, list_all}
use Rattle.std.specs.Str.Parse.{digits_value}
use Rattle.cert_reader.specs.declared.fault.ReadCert.{ReadCert}
use Rattle.cert_reader.specs.declared.fault.ReadCert.TheVariants as errors

infixl 10 ◌>>=◌
abbrev pub ◌>>=◌ : {A B : Type 0} → Result A ℕ → (A → Result B ℕ) → Result B ℕ
(Ok x) >>= f = f x
(Err line) >>= f = Err line

-- A call fails as reading does, unless memory ran out.
abbrev pub Fails : {Y : Type 0} → ReadCert → Result Y ℕ → Type 0
Fails errors.NoMemory read = Unit {0}
Fails (errors.Refused line) read = read ≡ Err line

-- What a call answered, seen by view, is what reading gives, unless memory ran out.
abbrev pub GivesReading : {X Y : Type 0} → (X → Y) → Result X ReadCert → Result Y ℕ → Type 0
GivesReading view (Ok x) read = read ≡ Ok (view x)
GivesReading view (Err e) read = Fails e read

abbrev pub begins_with : List ℕ → List ℕ → Bool
begins_with [] bytes = true
begins_with (x ∷ xs) [] = false
begins_with (x ∷ xs) (y ∷ ys) = nat_eq x y && begins_with xs ys

-- this text
unfoldable pub text_at : List ℕ → ℕ → List ℕ → Result (Unit {0} × List ℕ) ℕ
text_at text line bytes = if begins_with text bytes then Ok (tt, drop (length text) bytes) else Err line

abbrev pub is_no_digit : ℕ → Bool
is_no_digit byte = not (is_ascii_digit byte)

-- the digits in front
abbrev pub front_digits : List ℕ → List ℕ
front_digits bytes = before_first is_no_digit bytes

-- so many bytes in front, but at most eleven, are all digits that stand there, and have this value
pub record AreFrontDigits (bytes : List ℕ) (count value : ℕ) : Type 0 where
  pub within : count ≤ length bytes
  pub few : count ≤ 11
  pub digits : list_all is_ascii_digit (take count bytes) ≡ true
  pub value_is : value ≡ digits_value 10 (take count bytes)
  pub ended : count < 11 → count < length bytes → is_ascii_digit (slice_index_or bytes count 0) ≡ false

-- at least one digit and at most ten, and a zero in front only alone
abbrev pub is_plain : List ℕ → Bool
is_plain [] = false
is_plain (first ∷ others) =
    nat_le (length (first ∷ others)) 10 && (not (nat_eq first 48) || nat_eq (length others) 0)

-- a number up to a limit
unfoldable pub number_at : ℕ → ℕ → List ℕ → Result (ℕ × List ℕ) ℕ
number_at limit line bytes =
    if is_plain (front_digits bytes) && nat_le (digits_value 10 (front_digits bytes)) limit
    then Ok (digits_value 10 (front_digits bytes), drop (length (front_digits bytes)) bytes) else Err line
