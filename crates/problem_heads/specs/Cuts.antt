-- The first line of a text.
use Rattle.std.specs.Prelude.{◌≡◌, ℕ, ◌<◌, List, ◌∷◌, length}
use Rattle.std.specs.List.{after_first}
use Rattle.line_lexer.specs.Lines.{is_line_feed, lines_of}

-- This line is the first of a text, and these bytes follow it.
pub record IsFirstLine (text line others : List ℕ) : Type 0 where
  pub lines : lines_of text ≡ line ∷ lines_of others
  pub others_are : others ≡ after_first is_line_feed text
  pub shorter : length others < length text
