-- A text that is put piece by piece.
use Rattle.std.specs.Prelude.{◌≡◌, ℕ, List, ◌++◌, Result}
use Rattle.port_io.specs.declared.ports.Sink.{Ghosts}
use Rattle.port_io.specs.declared.writing.WriteFault.{WriteFault}
use Rattle.text_writer.specs.Giving.{HasGiven, IsWritten}
use Rattle.text_writer.specs.declared.writer.TextWriter.{TextWriter}

-- since the sink stood as `first`, this text was put: the writer holds what it has not given to the sink yet
pub record HasPut {S : Type 0} (K : Ghosts S) (first : S) (writer : TextWriter S) (text : List ℕ) : Type 0 where
  pub given : List ℕ
  pub has : HasGiven K first writer.out.now writer.progress given
  pub order : text ≡ given ++ writer.held

-- this text was put behind whatever was put before
pub record Puts {S : Type 0} (K : Ghosts S) (before after : TextWriter S) (text : List ℕ) : Type 0 where
  pub same_sink : after.out.ghost_name ≡ before.out.ghost_name
  pub behind : (first : S) (front : List ℕ) → HasPut K first before front → HasPut K first after (front ++ text)

-- a first part of a text was put, and this is left
pub record PutsUpTo {S : Type 0} (K : Ghosts S) (before after : TextWriter S) (text left : List ℕ) : Type 0 where
  pub done : List ℕ
  pub puts : Puts K before after done
  pub split : text ≡ done ++ left

-- whatever text was put, it is written
abbrev pub Finishes : {S : Type 0} → Ghosts S → TextWriter S → S → Result (Unit {0}) WriteFault → Type 0
Finishes {S} K writer last result =
    (first : S) (text : List ℕ) → HasPut K first writer text → IsWritten K first last text result
