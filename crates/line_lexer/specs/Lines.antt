-- The lines of a text.
use Rattle.std.specs.Prelude.{ℕ, List, [], ◌∷◌, nat_eq, Bool, map, if◌then◌else◌}
use Rattle.std.specs.List.{onto_first}
use Rattle.std.specs.Str.Lines.{strip_carriage_return}

-- the byte 10, a line feed
abbrev pub is_line_feed : ℕ → Bool
is_line_feed byte = nat_eq byte 10

-- A text cut at each line feed; what follows the last one counts if it is not empty.
abbrev pub cut_at_feeds : List ℕ → List (List ℕ)
cut_at_feeds [] = []
cut_at_feeds (byte ∷ bytes) =
    if is_line_feed byte then [] ∷ cut_at_feeds bytes else onto_first byte (cut_at_feeds bytes)

-- The lines of a text: its parts between line feeds, each without the one carriage return at its end, if it has one.
abbrev pub lines_of : List ℕ → List (List ℕ)
lines_of text = map strip_carriage_return (cut_at_feeds text)
