-- The items of an equation line: UNKNOWN=VALUE, cut at the first =.
use Rattle.std.specs.Prelude.{◌≡◌, ℕ, ◌-◌, Bool, ◌||◌, List, length, take, drop, codes, nat_eq, nat_lt, if◌then◌else◌, Option, Some, None}
use Rattle.std.specs.List.{position_or_len, before_first, after_first}
use Rattle.std.specs.Result.{result_unwrap_or}
use Rattle.std.specs.Str.{bytes_eq}
use Rattle.line_lexer.specs.Numbers.{number_of}

abbrev pub is_equals_sign : ℕ → Bool
is_equals_sign byte = nat_eq byte 61

abbrev pub has_equals_sign : List ℕ → Bool
has_equals_sign item = nat_lt (position_or_len is_equals_sign item) (length item)

-- the unknown that an item names
abbrev pub unknown_of : List ℕ → List ℕ
unknown_of item = before_first is_equals_sign item

-- the text of its value
abbrev pub value_of : List ℕ → List ℕ
value_of item = after_first is_equals_sign item

-- whether a value is a symbol alone
abbrev pub is_symbol : List ℕ → Bool
is_symbol value = bytes_eq value (codes "?")

-- whether a value ends as a number with a symbol does
abbrev pub adds_symbol : List ℕ → Bool
adds_symbol value = bytes_eq (drop (length value - 2) value) (codes "+?")

-- the text of the number in a value that is no symbol alone
abbrev pub number_text : List ℕ → List ℕ
number_text value = if adds_symbol value then take (length value - 2) value else value

-- the constant of a value, perhaps 0: that of its number, and 0 for a symbol alone
abbrev pub value_constant : ℕ → List ℕ → ℕ
value_constant p value = if is_symbol value then 0 else result_unwrap_or (number_of p (number_text value)) 0

-- whether a value has a symbol
abbrev pub value_symbol : List ℕ → Bool
value_symbol value = is_symbol value || adds_symbol value

-- a constant, where it is not 0
abbrev pub unless_zero : ℕ → Option ℕ
unless_zero constant = if nat_eq constant 0 then None else Some constant

-- the constant that an item gives, perhaps 0
abbrev pub item_constant : ℕ → List ℕ → ℕ
item_constant p item = value_constant p (value_of item)

-- whether it gives a symbol
abbrev pub item_symbol : List ℕ → Bool
item_symbol item = value_symbol (value_of item)

-- What an item says: its unknown, the constant there, where it is not 0, and whether a symbol is there.
pub record SaysItem (p : ℕ) (item unknown : List ℕ) (constant : Option ℕ) (symbol : Bool) : Type 0 where
  pub unknown_is : unknown ≡ unknown_of item
  pub constant_is : constant ≡ unless_zero (item_constant p item)
  pub symbol_is : symbol ≡ item_symbol item
