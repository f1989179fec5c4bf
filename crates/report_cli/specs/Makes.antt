-- What a run makes of its sink that tells of a made model.
use Rattle.std.specs.Prelude.{◌≡◌, ◌≢◌, ℕ, ◌≤◌, List, Option, IsTrue}
use Rattle.port_io.specs.Bytes.{Appended}
use Rattle.port_io.specs.Causes.{FailedLast, IsAtMostOneMore, one_more}
use Rattle.port_io.specs.declared.ports.Sink.{Ghosts}
use Rattle.text_writer.specs.Giving.{AppendedPart}
use Rattle.report_cli.specs.Answer.{EachMadeTextFits}
use Rattle.report_cli.specs.MadeFor.{IsMakeText}
use Rattle.run_ends.specs.Ways.{HasText}
use Rattle.run_ends.specs.declared.status.Status.{Status}
use Rattle.run_ends.specs.declared.status.Status.TheVariants.{Done, Memory, WriteFault}

-- how a run ends that tells of the made model of size n over the residues modulo p, and what was written: for want of
-- memory the sink is as it was
abbrev pub IsMakeEnd : {K : Type 0} → ℕ → ℕ → Status → K → K → Option (List ℕ) → Option (List ℕ) → Type 0 → Type 0
IsMakeEnd p n Done out out' written written' failed =
    (text : List ℕ) × IsMakeText p n text × Appended written written' text
IsMakeEnd p n WriteFault out out' written written' failed =
    failed × ((text : List ℕ) × IsMakeText p n text × AppendedPart written written' text)
IsMakeEnd p n Memory out out' written written' failed = out' ≡ out
IsMakeEnd p n _ out out' written written' failed = ⊥

-- a run that tells of the made model of size n over the residues modulo p
pub record HasMadeOver {K : Type 0} (G : Ghosts K) (p n : ℕ) (out out' : K) (status : Status) : Type 0 where
  pub ends : IsMakeEnd p n status out out' (G.written out) (G.written out')
      (FailedLast (G.faults out) (G.faults out') (G.failed out'))
  pub finished : HasText status → IsTrue (G.flushed out')
  pub one_flush : HasText status → G.flushes out' ≡ one_more (G.flushes out)
  pub write_told : status ≢ WriteFault → G.faults out' ≡ G.faults out
  pub fault_flush : status ≡ WriteFault → IsAtMostOneMore (G.flushes out) (G.flushes out')
  pub counts_out : G.faults out ≤ G.faults out'
  pub calm_out : EachMadeTextFits (IsMakeText p n) (G.takes out) → G.faults out' ≡ G.faults out
