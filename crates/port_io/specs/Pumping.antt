-- An input that is taken piece by piece.
use Rattle.std.specs.Prelude.{ℕ, Bool, false, List, []}

-- the last piece, how many bytes were taken, how many may be, and whether the input ended
pub record Pumping : Type 0 where
  pub piece : List ℕ
  pub taken : ℕ
  pub limit : ℕ
  pub ended : Bool

-- before the first piece
abbrev pub nothing_pumped : ℕ → Pumping
nothing_pumped limit = record { piece = []; taken = 0; limit = limit; ended = false }
