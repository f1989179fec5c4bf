-- What an input is to be, what keeps that, and how a run ends on what does not.
use Rattle.std.specs.Prelude.{ℕ, List, Option}
use Rattle.limits.specs.Limits.{input_limit}
use Rattle.cert_reader.specs.Limits.{certificate_limit}
use Rattle.cert_verdict.specs.Statuses.{IsUnaccepted}
use Rattle.cert_verdict.specs.Verdicts.{IsAccepted}
use Rattle.mixed_model.specs.Models.{MixedModel}
use Rattle.input_kinds.specs.Kinds.{GivesModel}
use Rattle.input_kinds.specs.Refusals.{IsRefusedAs}
use Rattle.command_line.specs.declared.command.Format.{Format}
use Rattle.command_line.specs.declared.command.Format.TheVariants.{Certificate, Lines, Model, Studied}
use Rattle.study_outputs.specs.StudyInputs.{IsStudyFault, KeepsStudy}
use Rattle.run_ends.specs.Reading.{IsUnread}
use Rattle.run_ends.specs.declared.status.Status.{Status}

-- how many bytes an input has at most
abbrev pub limit_of : Format → ℕ
limit_of (Model kind) = input_limit
limit_of (Studied study kind) = input_limit
limit_of Certificate = certificate_limit
limit_of Lines = input_limit

-- the input keeps each rule: it gives a model over the residues modulo p, or what is studied, or it is the text of a
-- certificate that is accepted, or it is any text that is to be lines of commands
abbrev pub KeepsFormat : ℕ → Format → List ℕ → Type 0
KeepsFormat p (Model kind) input = (model : MixedModel) × GivesModel p kind input model
KeepsFormat p (Studied study kind) input = KeepsStudy p study kind input
KeepsFormat p Certificate input = IsAccepted input
KeepsFormat p Lines input = Unit {0}

-- the status tells the first rule that the input breaks: lines of commands break none, as each is replied to
abbrev pub IsFault : ℕ → Format → List ℕ → Status → Type 0
IsFault p (Model kind) = IsRefusedAs p kind
IsFault p (Studied study kind) = IsStudyFault p study kind
IsFault p Certificate = IsUnaccepted
IsFault p Lines = λ input status. ⊥

-- why an input that is to be one of these gives no output
abbrev pub GivesNothing : ℕ → Format → Status → Option (List ℕ) → Option (List ℕ) → Type 0
GivesNothing p format status left left' = IsUnread (limit_of format) (IsFault p format) status left left'
