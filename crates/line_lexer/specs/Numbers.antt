-- Numbers, and their residues modulo p.
use Rattle.std.specs.Prelude.{ℕ, ℤ, pos, int_lt, unsigned_abs, ◌+◌, ◌*◌, ◌%◌, ◌^◌, Bool, true, false, not, ◌&&◌, ◌||◌, List}
use Rattle.std.specs.Prelude.{◌++◌, length, codes, nat_eq, nat_le, nat_lt, if◌then◌else◌, Option, Some, None, Result, Ok}
use Rattle.std.specs.Prelude.{Err}
use Rattle.std.specs.Char.{is_ascii_digit}
use Rattle.std.specs.List.{list_all, position_or_len, before_first, after_first, range_with_len}
use Rattle.std.specs.Str.Parse.{digits_value, starts_with_minus, without_leading_sign}
use Rattle.refusals.specs.declared.Why.{Why}
use Rattle.refusals.specs.declared.Why.TheVariants.{BadNumber, Vanish}
use Rattle.line_lexer.specs.declared.numbers.Ratio.{Ratio}

abbrev pub is_slash : ℕ → Bool
is_slash byte = nat_eq byte 47

abbrev pub is_point : ℕ → Bool
is_point byte = nat_eq byte 46

-- whether a byte of this sort stands in a text
abbrev pub has_byte : (ℕ → Bool) → List ℕ → Bool
has_byte sort text = nat_lt (position_or_len sort text) (length text)

-- A numeral: 1 to 18 digits.
abbrev pub is_numeral : List ℕ → Bool
is_numeral text = nat_le 1 (length text) && nat_le (length text) 18 && list_all is_ascii_digit text

-- the number that a numeral is
abbrev pub numeral_of : List ℕ → Option ℕ
numeral_of text = if is_numeral text then Some (digits_value 10 text) else None

-- a numeral over a numeral
abbrev pub quotient_of : List ℕ → List ℕ → Option Ratio
quotient_of numerator denominator =
    if is_numeral numerator && is_numeral denominator
    then Some (record { numerator = digits_value 10 numerator; denominator = digits_value 10 denominator }) else None

-- A decimal, by its digits before and after the point, at most 18 together: all its digits over a power of ten.
abbrev pub decimal_of : List ℕ → List ℕ → Option Ratio
decimal_of whole decimals =
    if is_numeral whole && is_numeral decimals && nat_le (length whole + length decimals) 18
    then Some (record { numerator = digits_value 10 (whole ++ decimals); denominator = 10 ^ length decimals }) else None

-- The fraction that a text without a sign is: two numerals with a `/` between them, or a decimal, or a numeral.
abbrev pub fraction_of : List ℕ → Option Ratio
fraction_of text =
    if has_byte is_slash text then quotient_of (before_first is_slash text) (after_first is_slash text)
    else (if has_byte is_point text then decimal_of (before_first is_point text) (after_first is_point text)
    else quotient_of text (codes "1"))

-- whether p divides the denominator of a fraction, or its numerator though that is not 0
abbrev pub vanishes : ℕ → Ratio → Bool
vanishes p fraction =
    nat_eq (fraction.denominator % p) 0
    || (not (nat_eq fraction.numerator 0) && nat_eq (fraction.numerator % p) 0)

-- whether r is this fraction modulo p, or its negative
abbrev pub is_residue : ℕ → Bool → Ratio → ℕ → Bool
is_residue p false fraction r = nat_eq ((r * fraction.denominator) % p) (fraction.numerator % p)
is_residue p true fraction r = nat_eq ((r * fraction.denominator + fraction.numerator) % p) 0

-- The residue of a fraction that does not vanish, or of its negative: the one number below p that is it.
unfoldable pub fraction_residue : ℕ → Bool → Ratio → ℕ
fraction_residue p negative fraction = position_or_len (is_residue p negative fraction) (range_with_len 0 p)

-- what reading a fraction answers, where there is one
abbrev pub residue_of : ℕ → Bool → Option Ratio → Result ℕ Why
residue_of p negative None = Err BadNumber
residue_of p negative (Some fraction) =
    if vanishes p fraction then Err Vanish else Ok (fraction_residue p negative fraction)

-- The residue of the number that a text is, or why there is none.
abbrev pub number_of : ℕ → List ℕ → Result ℕ Why
number_of p text = residue_of p (starts_with_minus text) (fraction_of (without_leading_sign text))

-- The residue of a whole number: its magnitude over 1, with its sign.
abbrev pub integer_of : ℕ → ℤ → Result ℕ Why
integer_of p integer =
    residue_of p (int_lt integer (pos 0)) (Some (record { numerator = unsigned_abs integer; denominator = 1 }))
