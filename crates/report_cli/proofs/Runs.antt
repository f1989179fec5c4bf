-- A command has one answer to a whole input.
use Rattle.std.proofs.Common.{◌≡◌, ℕ, ◌≤◌, ◌<◌, List, length, ◌⊎◌, sym, ◌∙◌, ap, subst, arith, inl, inr}
use Rattle.run_ends.specs.declared.status.Status.{Status}
use Rattle.run_ends.specs.declared.status.Status.TheVariants.{BadCertificate, Done, Memory, NotRegular, ReadFault}
use Rattle.run_ends.specs.declared.status.Status.TheVariants.{Refused, Rejected, TooLong, Usage, WriteFault}
use Rattle.report_cli.specs.Fields.{command_modulus}
use Rattle.report_cli.specs.Formats.{IsFault, KeepsFormat, limit_of}
use Rattle.command_line.specs.Words.{format_of}
use Rattle.run_ends.specs.Ways.{HasText}
use Rattle.report_cli.specs.Answer.{IsAnswerOf}
use Rattle.command_line.specs.declared.command.Command.{Command}
use Rattle.report_cli.specs.Outputs.{IsOutputFor, end_of}
use Rattle.report_cli.specs.declared.output.Output.{Output}
use Rattle.report_cli.proofs.Ends.{kept-unfaulty, one-fault}
use Rattle.report_cli.proofs.Outputs.{has-text, keeps-rules, one-status}

-- an input is too long, or it breaks a rule, or its output is written
abbrev pub IsLong : Command → List ℕ → Status → Type 0
IsLong command input status = (status ≡ TooLong (limit_of (format_of command))) × (limit_of (format_of command) < length input)

abbrev pub IsFaulty : Command → List ℕ → Status → Type 0
IsFaulty command input status =
    (length input ≤ limit_of (format_of command)) × IsFault (command_modulus command) (format_of command) input status

-- values are numbers here
abbrev pub IsRightOutput : Command → List ℕ → Output ℕ → Type 0
IsRightOutput command input output = IsOutputFor (λ value. value) (command_modulus command) command input output

abbrev pub IsTold : Command → List ℕ → Status → Type 0
IsTold command input status =
    (length input ≤ limit_of (format_of command)) × ((output : Output ℕ) × IsRightOutput command input output × (status ≡ end_of output))

abbrev pub Ends : Command → List ℕ → Status → Type 0
Ends command input status = IsLong command input status ⊎ (IsFaulty command input status ⊎ IsTold command input status)

pub ends : (command : Command) (input : List ℕ) (status : Status) (text : List ℕ) → IsAnswerOf command input status text → Ends command input status
ends command input Done text (short, is) = inr (inr (short, (is.output, is.right, is.ends)))
ends command input NotRegular text (short, is) = inr (inr (short, (is.output, is.right, is.ends)))
ends command input Usage text answer = absurd answer
ends command input (Refused refused) text (short, fault, empty) = inr (inl (short, fault))
ends command input (TooLong limit) text (is, long, empty) = inl (ap TooLong is, long)
ends command input (BadCertificate line) text (short, fault, empty) = inr (inl (short, fault))
ends command input ReadFault text answer = absurd answer
ends command input WriteFault text answer = absurd answer
ends command input Memory text answer = absurd answer
ends command input (Rejected rule) text (short, fault, empty) = inr (inl (short, fault))

-- an input that is too long has no other end
not-long : {A : Type 0} (command : Command) (input : List ℕ) → limit_of (format_of command) < length input → length input ≤ limit_of (format_of command) → A
not-long command input long short = absurd (omega (arith, long, short))

pub one-answer : (command : Command) (input : List ℕ) (a b : Status) → Ends command input a → Ends command input b → a ≡ b
one-answer command input a b (inl (is, long)) (inl (are, longer)) = is ∙ sym are
one-answer command input a b (inl (is, long)) (inr (inl (short, fault))) = not-long command input long short
one-answer command input a b (inl (is, long)) (inr (inr (short, told))) = not-long command input long short
one-answer command input a b (inr (inl (short, fault))) (inl (are, long)) = not-long command input long short
one-answer command input a b (inr (inr (short, told))) (inl (are, long)) = not-long command input long short
one-answer command input a b (inr (inl (short, one))) (inr (inl (shorter, two))) =
    one-fault (command_modulus command) (format_of command) input a b short one two
one-answer command input a b (inr (inl (short, fault))) (inr (inr (shorter, (output, right, is)))) =
    kept-unfaulty (command_modulus command) (format_of command) input a short
    (keeps-rules (λ value. value) (command_modulus command) command input output right) fault
one-answer command input a b (inr (inr (short, (output, right, is)))) (inr (inl (shorter, fault))) =
    kept-unfaulty (command_modulus command) (format_of command) input b short
    (keeps-rules (λ value. value) (command_modulus command) command input output right) fault
one-answer command input a b (inr (inr (short, (output, right, is)))) (inr (inr (shorter, (other, another, are)))) =
    is ∙ one-status (λ value. value) (λ value. value) (command_modulus command) command input output other right another ∙ sym are

-- all answers to an input have one status
pub one-answer-status : (command : Command) (input : List ℕ) (a b : Status) (text other : List ℕ) → IsAnswerOf command input a text →
    IsAnswerOf command input b other → a ≡ b
one-answer-status command input a b text other one two = one-answer command input a b (ends command input a text one) (ends command input b other two)

-- of an input that keeps each rule the text is written
module _ (command : Command) (input : List ℕ) (short : length input ≤ limit_of (format_of command))
    (keeps : KeepsFormat (command_modulus command) (format_of command) input) (status : Status) where
  kept-told : Ends command input status → HasText status
  kept-told (inl (is, long)) = not-long command input long short
  kept-told (inr (inl (shorter, fault))) = kept-unfaulty (command_modulus command) (format_of command) input status short keeps fault
  kept-told (inr (inr (shorter, (output, right, is)))) = subst HasText (sym is) (has-text output)

  pub told_where_kept : ((text : List ℕ) × IsAnswerOf command input status text) ⊎ (status ≡ Memory) → HasText status ⊎ (status ≡ Memory)
  told_where_kept (inl (text, own)) = inl (kept-told (ends command input status text own))
  told_where_kept (inr memory) = inr memory
