-- Each input has an answer, and its answers have one status.
use Rattle.std.specs.Prelude.{◌≡◌, ℕ, List, Option}
use Rattle.cert_text.specs.declared.kind.Kind.{Kind}
use Rattle.command_line.specs.Words.{Asks, AsksFor}
use Rattle.command_line.specs.declared.command.Command.TheVariants.{OfModel}
use Rattle.command_line.specs.declared.command.Request.{Request}
use Rattle.command_line.specs.declared.command.Task.TheVariants.{Report}
use Rattle.report_cli.specs.Answer.{IsAnswer}
use Rattle.run_ends.specs.declared.status.Status.{Status}
use Rattle.residue_field.specs.declared.field_name.FieldName.{FieldName}

-- any two answers to one input by the same words have the same status
abbrev pub AnswersHaveOneStatus : Type 0
AnswersHaveOneStatus =
    (words : List (List ℕ)) (input : List ℕ) (a b : Status) (text other : List ℕ) →
    IsAnswer words input a text → IsAnswer words input b other → a ≡ b

-- any two reports on one input are the same text
abbrev pub AnswersOfReportAreOne : Type 0
AnswersOfReportAreOne =
    (words : List (List ℕ)) (kind : Kind) (field : Option FieldName) (input : List ℕ) (a b : Status)
    (text other : List ℕ) → AsksFor words (OfModel Report kind field) →
    IsAnswer words input a text → IsAnswer words input b other → text ≡ other

-- an answer to an input
pub record HasAnswer (words : List (List ℕ)) (input : List ℕ) : Type 0 where
  pub status : Status
  pub text : List ℕ
  pub answer : IsAnswer words input status text

-- whatever the words ask for, each input has an answer
abbrev pub EachInputIsAnswered : Type 0
EachInputIsAnswered = (words : List (List ℕ)) (request : Request) → Asks words request → (input : List ℕ) →
    HasAnswer words input
