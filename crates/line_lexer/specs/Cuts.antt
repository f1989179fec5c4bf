-- One token cut off a text.
use Rattle.std.specs.Prelude.{◌≡◌, ℕ, ◌+◌, List, ◌∷◌, length}
use Rattle.std.specs.Str.{IsAscii}
use Rattle.line_lexer.specs.Tokens.{tokens_from}

-- The text's first token comes after so many blanks, and what follows it has the others.
pub record CutsToken (text : List ℕ) (skipped : ℕ) (token rest : List ℕ) : Type 0 where
  pub tokens : (i : ℕ) → tokens_from i text ≡ (i + skipped, token) ∷ tokens_from (i + skipped + length token) rest
  pub whole : skipped + length token + length rest ≡ length text
  pub ascii : IsAscii rest
