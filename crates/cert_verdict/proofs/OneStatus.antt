-- A text that is not accepted ends a run with one status.
use Rattle.std.proofs.Common.{◌≡◌, ◌≢◌, ◌≤◌, ℕ, List, Result, Ok, Err, length, refl, ap, sym, ◌∙◌}
use Rattle.cert_reader.specs.Limits.{certificate_limit}
use Rattle.cert_verdict.specs.Statuses.{IsUnaccepted, status_of_verdict}
use Rattle.cert_verdict.specs.Verdicts.{IsAccepted, IsVerdict}
use Rattle.cert_verdict.specs.declared.judging.NotAccepted.{NotAccepted}
use Rattle.cert_verdict.specs.declared.judging.NotAccepted.TheVariants.{NoMemory, Refused as Unread, Rejected as BreaksRule}
use Rattle.run_ends.specs.declared.status.Status.{Status}
use Rattle.run_ends.specs.declared.status.Status.TheVariants.{BadCertificate, Done, Memory, NotRegular, ReadFault}
use Rattle.run_ends.specs.declared.status.Status.TheVariants.{Refused, Rejected, TooLong, Usage, WriteFault}
use Rattle.cert_verdict.proofs.OneVerdict.{one-verdict}

abbrev status_of : Result (Unit {0}) NotAccepted → Status
status_of (Ok accepted) = Done
status_of (Err why) = status_of_verdict why

-- the status of a verdict
abbrev IsJudged : List ℕ → Status → Type 0
IsJudged text status =
    (verdict : Result (Unit {0}) NotAccepted) × (status ≡ status_of verdict) × IsVerdict text verdict × (verdict ≢ Err NoMemory)

judged : (text : List ℕ) (status : Status) → IsUnaccepted text status → IsJudged text status
judged text Done is = absurd is
judged text NotRegular is = absurd is
judged text Usage is = absurd is
judged text (Refused refused) is = absurd is
judged text (TooLong limit) is = absurd is
judged text (BadCertificate line) is = (Err (Unread line), refl, is, λ e. absurd cc)
judged text ReadFault is = absurd is
judged text WriteFault is = absurd is
judged text Memory is = absurd is
judged text (Rejected rule) is = (Err (BreaksRule rule), refl, is, λ e. absurd cc)

one-judgement : (text : List ℕ) (a b : Status) → length text ≤ certificate_limit → IsJudged text a → IsJudged text b → a ≡ b
one-judgement text a b short (verdict, is, said, some) (other, are, others, another) =
    is ∙ ap status_of (one-verdict text short verdict other said others some another) ∙ sym are

pub one-unaccepted : (text : List ℕ) (a b : Status) → length text ≤ certificate_limit → IsUnaccepted text a → IsUnaccepted text b → a ≡ b
one-unaccepted text a b short one two = one-judgement text a b short (judged text a one) (judged text b two)

-- and a text that is accepted with none
not-done : {A : Type 0} (text : List ℕ) (status : Status) → Done ≡ status → IsUnaccepted text status → A
not-done text Done same is = absurd is
not-done text NotRegular same is = absurd is
not-done text Usage same is = absurd is
not-done text (Refused refused) same is = absurd is
not-done text (TooLong limit) same is = absurd is
not-done text (BadCertificate line) same is = absurd cc
not-done text ReadFault same is = absurd is
not-done text WriteFault same is = absurd is
not-done text Memory same is = absurd is
not-done text (Rejected rule) same is = absurd cc

pub accepted-no-fault : {A : Type 0} (text : List ℕ) (status : Status) → length text ≤ certificate_limit → IsAccepted text → IsUnaccepted text status → A
accepted-no-fault text status short accepted is =
    not-done text status (one-judgement text Done status short (Ok tt, refl, accepted, λ e. absurd cc) (judged text status is)) is
