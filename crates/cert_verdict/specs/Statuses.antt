-- How a run ends on a text that is not accepted.
use Rattle.std.specs.Prelude.{ℕ, List}
use Rattle.cert_reader.specs.CertLines.{IsNoCertificate}
use Rattle.cert_verdict.specs.Verdicts.{IsRejectedBy}
use Rattle.cert_verdict.specs.declared.judging.NotAccepted.{NotAccepted}
use Rattle.cert_verdict.specs.declared.judging.NotAccepted.TheVariants.{NoMemory, Refused as Unread, Rejected as BreaksRule}
use Rattle.run_ends.specs.declared.status.Status.{Status}
use Rattle.run_ends.specs.declared.status.Status.TheVariants.{BadCertificate, Memory, Rejected}

-- by why it is not
abbrev pub status_of_verdict : NotAccepted → Status
status_of_verdict (Unread line) = BadCertificate line
status_of_verdict (BreaksRule rule) = Rejected rule
status_of_verdict NoMemory = Memory

-- the status tells why the text is not accepted
abbrev pub IsUnaccepted : List ℕ → Status → Type 0
IsUnaccepted text (BadCertificate line) = IsNoCertificate text line
IsUnaccepted text (Rejected rule) = IsRejectedBy text rule
IsUnaccepted text _ = ⊥
