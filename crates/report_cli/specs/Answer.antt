-- What a run answers.
use Rattle.std.specs.Prelude.{◌≡◌, ℕ, ◌≤◌, ◌⊎◌, List, [], length, Option, Some}
use Rattle.command_line.specs.Words.{AsksFor, AsksForNothing, AsksToMake, format_of, over}
use Rattle.command_line.specs.declared.command.Command.{Command}
use Rattle.residue_field.specs.Modulus.{modulus_of}
use Rattle.residue_field.specs.declared.field_name.FieldName.{FieldName}
use Rattle.report_cli.specs.Fields.{command_modulus}
use Rattle.report_cli.specs.Formats.{IsFault, KeepsFormat, limit_of}
use Rattle.report_cli.specs.MadeFor.{IsMakeText}
use Rattle.report_cli.specs.Outputs.{IsOutputFor, end_of, output_text}
use Rattle.report_cli.specs.declared.output.Output.{Output}
use Rattle.run_ends.specs.Answers.{IsAnswerBy}
use Rattle.run_ends.specs.Ways.{HasText}
use Rattle.run_ends.specs.declared.status.Status.{Status}
use Rattle.run_ends.specs.declared.status.Status.TheVariants.{Done, Memory, Usage}

-- over the residues modulo p, each seen by its number: the text of an output for the input by this command, with which
-- a run ends so
pub record IsOutputText {T : Type 0} (number : T → ℕ) (p : ℕ) (command : Command) (input : List ℕ) (status : Status)
    (text : List ℕ) : Type 0 where
  pub output : Output T
  pub right : IsOutputFor number p command input output
  pub ends : status ≡ end_of output
  pub text_is : text ≡ output_text number output

-- over the residues modulo p, each seen by its number: a run of this command on this whole input ends with this status
-- and this text on `out`, when nothing fails
abbrev pub IsAnswerOver : {T : Type 0} → (T → ℕ) → ℕ → Command → List ℕ → Status → List ℕ → Type 0
IsAnswerOver number p command =
    IsAnswerBy (limit_of (format_of command)) (IsFault p (format_of command)) (IsOutputText number p command)

-- the same over the field that the command names: its values are numbers
abbrev pub IsAnswerOf : Command → List ℕ → Status → List ℕ → Type 0
IsAnswerOf command = IsAnswerOver {T = ℕ} (λ value. value) (command_modulus command) command

-- the command on an input that the words ask for gives the answer
abbrev pub IsCommandAnswer : List (List ℕ) → List ℕ → Status → List ℕ → Type 0
IsCommandAnswer words input status text =
    (command : Command) × AsksFor words command × IsAnswerOf command input status text

-- the words ask for a made model over a field, and the text tells of it
abbrev pub IsMakeAnswer : List (List ℕ) → List ℕ → Type 0
IsMakeAnswer words text =
    (n : ℕ) × (field : Option FieldName) × AsksToMake words n field × IsMakeText (modulus_of (over field)) n text

-- a run with these words on this whole input ends with this status and this text on `out`, when nothing fails: words
-- that ask for nothing are answered by `Usage`, and those that ask for a made model by `Done`, whatever the input is;
-- else the command that they ask for gives the answer
abbrev pub IsAnswer : List (List ℕ) → List ℕ → Status → List ℕ → Type 0
IsAnswer words input Usage text = AsksForNothing words × (text ≡ [])
IsAnswer words input Done text = IsCommandAnswer words input Done text ⊎ IsMakeAnswer words text
IsAnswer words input status text = IsCommandAnswer words input status text

-- each text that tells of a made model fits
abbrev pub EachMadeTextFits : (List ℕ → Type 0) → (ℕ → Type 0) → Type 0
EachMadeTextFits Texts takes = (text : List ℕ) → Texts text → takes (length text)

-- where the words ask for a command and the whole input keeps each rule, its text is written, but for want of memory
abbrev pub IsComplete : List (List ℕ) → Option (List ℕ) → Status → Type 0
IsComplete words left status =
    (input : List ℕ) (command : Command) → left ≡ Some input → AsksFor words command →
    length input ≤ limit_of (format_of command) → KeepsFormat (command_modulus command) (format_of command) input →
    HasText status ⊎ (status ≡ Memory)

-- where the words ask for a made model, its text is written, but for want of memory
abbrev pub IsMakeComplete : List (List ℕ) → Status → Type 0
IsMakeComplete words status =
    (n : ℕ) (field : Option FieldName) → AsksToMake words n field → (status ≡ Done) ⊎ (status ≡ Memory)
