-- Pieces of a text.
use Rattle.std.specs.Prelude.{ℕ, ◌≤◌, ◌≡◌, true, List, drop, length, nat_eq}
use Rattle.std.specs.List.{starts_with}

-- the piece stands in the text
abbrev pub HasPiece : List ℕ → List ℕ → Type 0
HasPiece text piece = (start : ℕ) × (start ≤ length text) × (starts_with nat_eq (drop start text) piece ≡ true)
