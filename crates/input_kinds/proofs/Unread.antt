-- Inputs that give no model.
use Rattle.std.proofs.Common.{ℕ, List, Option}
use Rattle.refusals.specs.declared.ReadModel.{ReadModel}
use Rattle.refusals.specs.declared.ReadModel.TheVariants.{Refused as Broken, NoMemory}
use Rattle.cert_text.specs.declared.kind.Kind.{Kind}
use Rattle.input_kinds.specs.Kinds.{IsWhyUnread}
use Rattle.limits.specs.Limits.{input_limit}
use Rattle.input_kinds.specs.Refusals.{IsRefusedAs}
use Rattle.run_ends.specs.Reading.{IsUnread, ReadsWhole}
use Rattle.run_ends.specs.Statuses.{status_of_refusal}

-- an input that was read whole, and is refused or finds no memory
pub unread_by_refusal : (p : ℕ) (kind : Kind) (left left' : Option (List ℕ)) (Holds : List ℕ → Type 0)
    (whole : ReadsWhole input_limit left left' Holds) (why : ReadModel) →
    IsWhyUnread p kind whole.input why → IsUnread input_limit (IsRefusedAs p kind) (status_of_refusal why) left left'
unread_by_refusal p kind left left' Holds whole (Broken refused) is =
    record { input = whole.input; took = whole.took; ended = whole.ended; short = whole.short; holds = is }
unread_by_refusal p kind left left' Holds whole NoMemory is = (whole.input, whole.short, whole.took)
