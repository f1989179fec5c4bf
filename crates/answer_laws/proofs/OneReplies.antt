-- Lines of commands have one answer.
use Rattle.std.proofs.Common.{◌≡◌, ◌≤◌, ◌<◌, ℕ, List, [], length, inl, inr, refl, subst, sym, ◌∙◌, arith}
use Rattle.limits.specs.Limits.{input_limit}
use Rattle.residue_theory.proofs.SetLaws.{lt_cases}
use Rattle.residue_field.specs.Modulus.{modulus_of}
use Rattle.residue_field.specs.declared.field_name.FieldName.TheVariants.{Small}
use Rattle.command_line.specs.declared.command.Command.TheVariants.{Edit}
use Rattle.desk_texts.specs.Said.{IsSaidOf}
use Rattle.desk_text_laws.proofs.OneText.{one-answer}
use Rattle.report_cli.specs.Answer.{IsAnswerOf}
use Rattle.report_cli.specs.Outputs.{end_of}
use Rattle.report_cli.specs.declared.output.Output.{Output}
use Rattle.report_cli.specs.declared.output.Output.TheVariants.{Accepted, Certificate as Certified}
use Rattle.report_cli.specs.declared.output.Output.TheVariants.{Layers as Layering, Made, Plan as Planning, Studied}
use Rattle.report_cli.specs.declared.output.Output.TheVariants.{Replies as Replying, Report as Reporting}
use Rattle.report_cli.proofs.FieldFacts.{prime-of}
use Rattle.report_cli.proofs.RunWords.{of_command}
use Rattle.run_ends.specs.declared.status.Status.{Status}
use Rattle.run_ends.specs.declared.status.Status.TheVariants.{BadCertificate, Done, Memory, NotRegular, ReadFault}
use Rattle.run_ends.specs.declared.status.Status.TheVariants.{Refused, Rejected, TooLong, Usage, WriteFault}
use Rattle.answer_laws.proofs.Answers.{IsRightOutput, text_of}
use Rattle.answer_laws.specs.Editing.{AnswersOfEditAreOne, EditIsDone}

-- an output for lines of commands is the text of the replies, and is done
abbrev IsReplied : List ℕ → Output ℕ → Type 0
IsReplied input output = (end_of output ≡ Done) × IsSaidOf (modulus_of Small) input (text_of output)

replied : (input : List ℕ) (output : Output ℕ) → IsRightOutput Edit input output → IsReplied input output
replied input (Certified certificate) (kind, field, is, right) = absurd cc
replied input (Layering model layers) (kind, field, is, gives, are, whole) = absurd cc
replied input (Reporting model told) (kind, field, is, gives, reports) = absurd cc
replied input (Planning model layers plan) (kind, field, is, right) = absurd cc
replied input (Studied studied) (study, one, is, right) = absurd cc
replied input Accepted (is, accepted) = absurd cc
replied input (Replying replies) (is, said) = (refl, said)
replied input (Made size split ccf) right = absurd right

-- lines that are not too long are done
abbrev IsDone : List ℕ → Status → List ℕ → Type 0
IsDone input status text = (status ≡ Done) × IsSaidOf (modulus_of Small) input text

short-done : (input : List ℕ) (status : Status) (text : List ℕ) → length input ≤ input_limit → IsAnswerOf Edit input status text → IsDone input status text
short-done input Done text short (within, is) = (refl, subst (IsSaidOf (modulus_of Small) input) (sym is.text_is) (replied input is.output is.right).1)
short-done input NotRegular text short (within, is) =
    let other : NotRegular ≡ Done = is.ends ∙ (replied input is.output is.right).0 in absurd cc
short-done input Usage text short answer = absurd answer
short-done input (Refused refused) text short (within, fault, empty) = absurd fault
short-done input (TooLong limit) text short (is, long, empty) = absurd (omega (arith, long, short))
short-done input (BadCertificate line) text short (within, fault, empty) = absurd fault
short-done input ReadFault text short answer = absurd answer
short-done input WriteFault text short answer = absurd answer
short-done input Memory text short answer = absurd answer
short-done input (Rejected rule) text short (within, fault, empty) = absurd fault

-- of lines that are too long nothing is written
long-empty : (input : List ℕ) (status : Status) (text : List ℕ) → input_limit < length input → IsAnswerOf Edit input status text → text ≡ []
long-empty input Done text long (within, is) = absurd (omega (arith, long, within))
long-empty input NotRegular text long (within, is) = absurd (omega (arith, long, within))
long-empty input Usage text long answer = absurd answer
long-empty input (Refused refused) text long (within, fault, empty) = empty
long-empty input (TooLong limit) text long (is, longer, empty) = empty
long-empty input (BadCertificate line) text long (within, fault, empty) = empty
long-empty input ReadFault text long answer = absurd answer
long-empty input WriteFault text long answer = absurd answer
long-empty input Memory text long answer = absurd answer
long-empty input (Rejected rule) text long (within, fault, empty) = empty

pub edit-done : EditIsDone
edit-done words input status text asks short answer = short-done input status text short (of_command words Edit input status text asks answer)

pub edits-one : AnswersOfEditAreOne
edits-one words input a b text other asks first second = elim (lt_cases input_limit (length input)) [
  | inl long ↦ long-empty input a text long one ∙ sym (long-empty input b other long two)
  | inr short ↦ one-answer (modulus_of Small) input other text (prime-of Small)
      (short-done input b other (omega (arith, short)) two).1 (short-done input a text (omega (arith, short)) one).1
]
  where
    one : IsAnswerOf Edit input a text
    one = of_command words Edit input a text asks first

    two : IsAnswerOf Edit input b other
    two = of_command words Edit input b other asks second
