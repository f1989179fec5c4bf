-- What `edit` answers.
use Rattle.std.specs.Prelude.{ℕ, ◌≡◌, ◌≤◌, List, length}
use Rattle.limits.specs.Limits.{input_limit}
use Rattle.residue_field.specs.Modulus.{modulus_of}
use Rattle.residue_field.specs.declared.field_name.FieldName.TheVariants.{Small}
use Rattle.command_line.specs.Words.{AsksFor}
use Rattle.command_line.specs.declared.command.Command.TheVariants.{Edit}
use Rattle.desk_texts.specs.Said.{IsSaidOf}
use Rattle.report_cli.specs.Answer.{IsAnswer}
use Rattle.run_ends.specs.declared.status.Status.{Status}
use Rattle.run_ends.specs.declared.status.Status.TheVariants.{Done}

-- any two texts that answer the same lines are the same
abbrev pub AnswersOfEditAreOne : Type 0
AnswersOfEditAreOne =
    (words : List (List ℕ)) (input : List ℕ) (a b : Status) (text other : List ℕ) → AsksFor words Edit →
    IsAnswer words input a text → IsAnswer words input b other → text ≡ other

-- lines that are not too long are answered by the replies to them, whatever they are
abbrev pub EditIsDone : Type 0
EditIsDone =
    (words : List (List ℕ)) (input : List ℕ) (status : Status) (text : List ℕ) → AsksFor words Edit →
    length input ≤ input_limit → IsAnswer words input status text →
    (status ≡ Done) × IsSaidOf (modulus_of Small) input text
