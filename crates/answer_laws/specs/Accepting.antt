-- What `analyse` writes, `check` accepts, and how long it is at most.
use Rattle.std.specs.Prelude.{ℕ, ◌≤◌, List, Option, codes, length}
use Rattle.cert_text.specs.declared.kind.Kind.{Kind}
use Rattle.report_cli.specs.Answer.{IsAnswer}
use Rattle.command_line.specs.Words.{AsksFor}
use Rattle.command_line.specs.declared.command.Command.TheVariants.{Check, OfModel}
use Rattle.command_line.specs.declared.command.Task.TheVariants.{Analyse}
use Rattle.residue_field.specs.declared.field_name.FieldName.{FieldName}
use Rattle.run_ends.specs.declared.status.Status.TheVariants.{Done}

-- each text that answers `analyse`, of any kind and over either field, is an input that `check` answers by its word
abbrev pub AnalysedIsAccepted : Type 0
AnalysedIsAccepted =
    (words others : List (List ℕ)) (kind : Kind) (field : Option FieldName) (input text : List ℕ) →
    AsksFor words (OfModel Analyse kind field) → AsksFor others Check → IsAnswer words input Done text →
    IsAnswer others text Done (codes "accepted\n")

-- and has at most so many bytes, whatever the input is: fewer than an input of `check` may have
abbrev pub AnalysedIsShort : Type 0
AnalysedIsShort =
    (words : List (List ℕ)) (kind : Kind) (field : Option FieldName) (input text : List ℕ) →
    AsksFor words (OfModel Analyse kind field) → IsAnswer words input Done text → length text ≤ 1451663500
