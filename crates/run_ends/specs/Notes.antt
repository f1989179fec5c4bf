-- What is noted of a run.
use Rattle.std.specs.Prelude.{◌≡◌, ◌≤◌, ℕ, ◌⊎◌, Bool, List, [], ◌++◌, length, Option, codes}
use Rattle.port_io.specs.Causes.{FailedLast}
use Rattle.port_io.specs.declared.ports.Sink.{Ghosts}
use Rattle.refusals.specs.Texts.{refusal_text}
use Rattle.text_writer.specs.Giving.{AppendedPart}
use Rattle.text_writer.specs.Numbers.{spaced}
use Rattle.run_ends.specs.Ways.{HasText}
use Rattle.run_ends.specs.declared.status.Status.{Status}
use Rattle.run_ends.specs.declared.status.Status.TheVariants.{BadCertificate, Done, Memory, NotRegular, ReadFault}
use Rattle.run_ends.specs.declared.status.Status.TheVariants.{Refused, Rejected, TooLong, Usage, WriteFault}

-- the words for an input that is longer than a limit
abbrev pub limit_text : ℕ → List ℕ
limit_text limit = codes "input longer than" ++ spaced limit ++ codes " bytes"

-- the words for a text that is that of no certificate from this line on
abbrev pub line_text : ℕ → List ℕ
line_text line = codes "line" ++ spaced line ++ codes ": not a certificate line"

-- the words for a certificate that breaks this rule
abbrev pub rule_text : ℕ → List ℕ
rule_text rule = codes "rejected by rule" ++ spaced rule

-- the words for a status
abbrev pub status_words : Status → List ℕ
status_words Done = []
status_words NotRegular = []
status_words Usage = codes "unknown word"
status_words (Refused refused) = refusal_text refused
status_words (TooLong limit) = limit_text limit
status_words (BadCertificate line) = line_text line
status_words ReadFault = codes "read fault"
status_words WriteFault = codes "write fault"
status_words Memory = codes "out of memory"
status_words (Rejected rule) = rule_text rule

-- the line for a status
abbrev pub line_of : Status → List ℕ
line_of status = codes "mixed: " ++ status_words status ++ codes "\n"

-- what is noted of a status: nothing where the whole text was written
abbrev pub note_of : Status → List ℕ
note_of Done = []
note_of NotRegular = []
note_of status = line_of status

-- a text was noted and no call failed, or a part of it and the last call failed
pub record Noted (written written' : Option (List ℕ)) (faults faults' : ℕ) (failed : Bool) (note : List ℕ) :
    Type 0 where
  pub has : AppendedPart written written' note
  pub whole : ((has.rest ≡ []) × (faults' ≡ faults)) ⊎ FailedLast faults faults' failed

-- what is noted of a status was noted so: by no call where the whole text was written
pub record HasNoted {N : Type 0} (G : Ghosts N) (notes notes' : N) (status : Status) : Type 0 where
  pub noted : Noted (G.written notes) (G.written notes') (G.faults notes) (G.faults notes') (G.failed notes')
      (note_of status)
  pub counts : G.faults notes ≤ G.faults notes'
  pub quiet : HasText status → notes' ≡ notes
  pub calm : G.takes notes (length (note_of status)) → G.faults notes' ≡ G.faults notes
