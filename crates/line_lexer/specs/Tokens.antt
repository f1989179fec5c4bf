-- The tokens of a line.
use Rattle.std.specs.Prelude.{ℕ, ◌+◌, Bool, not, ◌&&◌, ◌||◌, List, [], ◌∷◌, nat_eq, nat_le, nat_lt, length, if◌then◌else◌, map, filter}
use Rattle.std.specs.List.{before_first, list_all}

-- a space or a tab
abbrev pub is_blank : ℕ → Bool
is_blank byte = nat_eq byte 32 || nat_eq byte 9

-- the sign of a comment, #
abbrev pub is_comment_sign : ℕ → Bool
is_comment_sign byte = nat_eq byte 35

-- what may stand outside a comment: a tab, or an ASCII byte that prints
abbrev pub is_text_byte : ℕ → Bool
is_text_byte byte = nat_eq byte 9 || (nat_le 32 byte && nat_le byte 126)

-- what ends the text of a line: the sign of a comment, or a byte that may stand in a comment alone
abbrev pub is_odd : ℕ → Bool
is_odd byte = is_comment_sign byte || not (is_text_byte byte)

-- a line without its comment
abbrev pub uncommented : List ℕ → List ℕ
uncommented line = before_first is_comment_sign line

-- no byte outside the comment is bad
abbrev pub is_clean : List ℕ → Bool
is_clean line = list_all is_text_byte (uncommented line)

-- a byte at the place i, put before the first part
abbrev pub onto_first_part : ℕ → ℕ → List (ℕ × List ℕ) → List (ℕ × List ℕ)
onto_first_part i byte [] = (i, byte ∷ []) ∷ []
onto_first_part i byte (part ∷ parts) = (i, byte ∷ part.1) ∷ parts

-- A text cut at each blank, from the place i on: each part with the place where it begins.
abbrev pub pieces_from : ℕ → List ℕ → List (ℕ × List ℕ)
pieces_from i [] = (i, []) ∷ []
pieces_from i (byte ∷ bytes) =
    if is_blank byte then (i, []) ∷ pieces_from (i + 1) bytes else onto_first_part i byte (pieces_from (i + 1) bytes)

abbrev pub has_bytes : ℕ × List ℕ → Bool
has_bytes part = nat_lt 0 (length part.1)

-- The tokens of a text that begins at the place i: the parts that are not empty.
abbrev pub tokens_from : ℕ → List ℕ → List (ℕ × List ℕ)
tokens_from i text = filter has_bytes (pieces_from i text)

-- The tokens of a line, each with the place where it begins: the longest runs of bytes that are no blank.
abbrev pub tokens_of : List ℕ → List (ℕ × List ℕ)
tokens_of line = tokens_from 0 (uncommented line)

-- the tokens without their places
abbrev pub words_of : List ℕ → List (List ℕ)
words_of line = map (λ token. token.1) (tokens_of line)
