-- Names and nodes.
use Rattle.std.specs.Prelude.{ℕ, Bool, false, not, ◌&&◌, ◌||◌, List, [], ◌∷◌, length, nat_eq, nat_le}
use Rattle.std.specs.Char.{is_ascii_alphabetic, is_ascii_digit}
use Rattle.std.specs.List.{list_all}
use Rattle.line_lexer.specs.Numbers.{is_point}

-- a letter or _
abbrev pub begins_name : ℕ → Bool
begins_name byte = is_ascii_alphabetic byte || nat_eq byte 95

-- a letter, a digit, _ or a point
abbrev pub continues_name : ℕ → Bool
continues_name byte = begins_name byte || is_ascii_digit byte || nat_eq byte 46

-- A name: a letter or _, then letters, digits, _ and points; at most 64 bytes.
abbrev pub is_name : List ℕ → Bool
is_name [] = false
is_name (byte ∷ bytes) = begins_name byte && list_all continues_name bytes && nat_le (length (byte ∷ bytes)) 64

-- A node of a circuit: letters, digits, _ and points; 1 to 64 bytes.
abbrev pub is_node : List ℕ → Bool
is_node node = nat_le 1 (length node) && nat_le (length node) 64 && list_all continues_name node

-- A short name: a name without points, of at most 30 bytes.
abbrev pub is_short_name : List ℕ → Bool
is_short_name name = is_name name && nat_le (length name) 30 && list_all (λ byte. not (is_point byte)) name
