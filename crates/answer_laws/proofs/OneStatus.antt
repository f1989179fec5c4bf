-- The answers to one input have one status.
use Rattle.std.proofs.Common.{◌≡◌, ℕ, List, ◌⊎◌, inl, inr, sym, ◌∙◌}
use Rattle.command_line.specs.Words.{AsksFor, AsksForNothing, AsksToMake}
use Rattle.command_line.specs.declared.command.Command.{Command}
use Rattle.residue_field.specs.declared.field_name.FieldName.{FieldName}
use Rattle.std.proofs.Common.{Option}
use Rattle.report_cli.specs.Answer.{IsAnswer}
use Rattle.run_ends.specs.declared.status.Status.{Status}
use Rattle.run_ends.specs.declared.status.Status.TheVariants.{BadCertificate, Done, Memory, NotRegular, ReadFault}
use Rattle.run_ends.specs.declared.status.Status.TheVariants.{Refused, Rejected, TooLong, Usage, WriteFault}
use Rattle.report_cli.proofs.Making.{made-done}
use Rattle.report_cli.proofs.RunWords.{of_command, usage-only}
use Rattle.report_cli.proofs.Runs.{ends, one-answer}
use Rattle.answer_laws.specs.OneAnswer.{AnswersHaveOneStatus}

-- what an answer says of the words: they ask for a command, for a made model, or for nothing
abbrev Asked : List (List ℕ) → Type 0
Asked words = ((command : Command) × AsksFor words command)
    ⊎ (((n : ℕ) × (field : Option FieldName) × AsksToMake words n field) ⊎ AsksForNothing words)

asked-by : (words : List (List ℕ)) (input : List ℕ) (status : Status) (text : List ℕ) → IsAnswer words input status text → Asked words
asked-by words input Done text (inl (command, asks, given)) = inl (command, asks)
asked-by words input Done text (inr (n, field, makes, told)) = inr (inl (n, field, makes))
asked-by words input NotRegular text (command, asks, given) = inl (command, asks)
asked-by words input Usage text (never, empty) = inr (inr never)
asked-by words input (Refused refused) text (command, asks, given) = inl (command, asks)
asked-by words input (TooLong limit) text (command, asks, given) = inl (command, asks)
asked-by words input (BadCertificate line) text (command, asks, given) = inl (command, asks)
asked-by words input ReadFault text (command, asks, given) = inl (command, asks)
asked-by words input WriteFault text (command, asks, given) = inl (command, asks)
asked-by words input Memory text (command, asks, given) = inl (command, asks)
asked-by words input (Rejected rule) text (command, asks, given) = inl (command, asks)

pub one-status : AnswersHaveOneStatus
one-status words input a b text other first second = go (asked-by words input a text first)
  where
    go : Asked words → a ≡ b
    go (inl (command, asks)) = one-answer command input a b
        (ends command input a text (of_command words command input a text asks first))
        (ends command input b other (of_command words command input b other asks second))
    go (inr (inl (n, field, makes))) = made-done words n field input a text makes first ∙ sym (made-done words n field input b other makes second)
    go (inr (inr never)) = sym (usage-only words input a text never first) ∙ usage-only words input b other never second
