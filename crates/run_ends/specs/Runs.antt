-- What a run makes of its source and its sink, but for what is noted.
use Rattle.std.specs.Prelude.{◌≡◌, ◌≢◌, ℕ, ◌+◌, ◌≤◌, List, length, Option, Some, IsTrue}
use Rattle.port_io.specs.Asking.{AsksWithin}
use Rattle.port_io.specs.Bytes.{Appended, Ended}
use Rattle.port_io.specs.Causes.{FailedLast, IsAtMostOneMore, one_more}
use Rattle.port_io.specs.declared.ports.Sink.{Ghosts as SinkGhosts}
use Rattle.port_io.specs.declared.ports.Source.{Ghosts as SourceGhosts}
use Rattle.text_writer.specs.Giving.{AppendedPart}
use Rattle.run_ends.specs.Answers.{Answered, CutShort, EachTextFits, IsDelivered}
use Rattle.run_ends.specs.Ways.{HasText, ReadsAll, TakesBy, TellsAnswer, WritesNothing}
use Rattle.run_ends.specs.declared.status.Status.{Status}
use Rattle.run_ends.specs.declared.status.Status.TheVariants.{ReadFault, Usage, WriteFault}

-- a text was written whole and flushed once, and the run ends as it is to end; or a call failed, and it was the last
-- one
pub record HasDelivered {K : Type 0} (G : SinkGhosts K) (end : Status) (text : List ℕ) (out out' : K)
    (status : Status) : Type 0 where
  pub ends : IsDelivered end status (Appended (G.written out) (G.written out') text × IsTrue (G.flushed out'))
      (FailedLast (G.faults out) (G.faults out') (G.failed out')
      × AppendedPart (G.written out) (G.written out') text)
  pub counts : G.faults out ≤ G.faults out'
  pub told : status ≢ WriteFault → G.faults out' ≡ G.faults out
  pub one_flush : HasText status → G.flushes out' ≡ one_more (G.flushes out)
  pub fault_flush : status ≡ WriteFault → IsAtMostOneMore (G.flushes out) (G.flushes out')
  pub calm : G.takes out (length text) → G.faults out' ≡ G.faults out

-- a run that reads an input of at most so many bytes and writes an answer to it
pub record HasRunOver {S K : Type 0} (H : SourceGhosts S) (G : SinkGhosts K) (most : ℕ)
    (Answers : List ℕ → Status → List ℕ → Type 0) (source source' : S) (out out' : K) (status : Status) :
    Type 0 where
  pub asked_for : status ≢ Usage
  -- a status that is no fault is the answer to what was read
  pub answered : TellsAnswer status (Answered Answers (H.left source) (H.left source') (G.written out) (G.written out')
      status)
  pub ended : ReadsAll status (Ended (H.left source'))
  pub finished : HasText status → IsTrue (G.flushed out')
  pub one_flush : HasText status → G.flushes out' ≡ one_more (G.flushes out)
  -- faults have their cause, and each is told
  pub read_told : status ≢ ReadFault → H.faults source' ≡ H.faults source
  pub write_told : status ≢ WriteFault → G.faults out' ≡ G.faults out
  pub read_fault : status ≡ ReadFault →
      FailedLast (H.faults source) (H.faults source') (H.asked source').failed
  pub write_fault : status ≡ WriteFault → FailedLast (G.faults out) (G.faults out') (G.failed out')
      × CutShort Answers (H.left source) (H.left source') (G.written out) (G.written out')
  pub fault_flush : status ≡ WriteFault → IsAtMostOneMore (G.flushes out) (G.flushes out')
  -- what is written and taken
  pub nothing_written : WritesNothing status (out' ≡ out)
  pub taken : TakesBy most status (H.left source) (H.left source')
  pub asked : AsksWithin 65536 (most + 1) (H.asked source) (H.asked source')
  pub met_once : IsAtMostOneMore (H.asked source).ends (H.asked source').ends
  -- counts of faults
  pub counts_source : H.faults source ≤ H.faults source'
  pub counts_out : G.faults out ≤ G.faults out'
  pub calm_source : H.never_fails source → H.faults source' ≡ H.faults source
  pub calm_out : (input : List ℕ) → H.left source ≡ Some input → EachTextFits Answers (G.takes out) input →
      G.faults out' ≡ G.faults out
