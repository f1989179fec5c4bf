-- What is accepted over one of the two fields.
use Rattle.std.specs.Prelude.{ℕ}
use Rattle.cert_verdict.specs.declared.judging.Accepted.{Accepted}
use Rattle.cert_verdict.specs.declared.judging.AnyAccepted.{AnyAccepted}
use Rattle.cert_verdict.specs.declared.judging.AnyAccepted.TheVariants.{Small, Large}

-- what was accepted, of whichever field
abbrev pub accepted_in : AnyAccepted → Accepted ℕ
accepted_in (Small accepted) = accepted
accepted_in (Large accepted) = accepted
