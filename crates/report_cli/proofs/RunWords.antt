-- The answers of a run, by its words.
use Rattle.std.proofs.Common.{◌≡◌, ◌≤◌, ◌⊎◌, ℕ, length, List, [], Option, Some, refl, sym, subst, inl, inr}
use Rattle.run_ends.specs.Answers.{Answered, CutShort, OnlyAnswer}
use Rattle.run_ends.specs.Ways.{HasText, TakesBy, TellsAnswer}
use Rattle.report_cli.specs.Answer.{IsAnswer, IsAnswerOf, IsCommandAnswer, IsComplete, IsMakeAnswer}
use Rattle.report_cli.specs.Fields.{command_modulus}
use Rattle.report_cli.specs.Formats.{KeepsFormat, limit_of}
use Rattle.report_cli.specs.Statuses.{status_of_words}
use Rattle.run_ends.proofs.Taking.{appended_nothing, took_none, took_nothing}
use Rattle.command_line.specs.Words.{AsksFor, AsksForNothing, IsWhy, format_of}
use Rattle.command_line.specs.declared.command.Command.{Command}
use Rattle.command_line.specs.declared.command.WordsError.{WordsError}
use Rattle.command_line.specs.declared.command.WordsError.TheVariants.{Told, UnknownWord, NoMemory}
use Rattle.run_ends.specs.declared.status.Status.{Status}
use Rattle.run_ends.specs.declared.status.Status.TheVariants.{BadCertificate, Done, Memory, NotRegular, ReadFault}
use Rattle.run_ends.specs.declared.status.Status.TheVariants.{Refused, Rejected, TooLong, Usage, WriteFault}
use Rattle.command_line.specs.declared.command.Request.TheVariants.{Make, OfInput}
use Rattle.command_line.proofs.Asking.{asks-one, not-both}

-- what answers words that ask for a command is an answer of the command
asked : (words : List (List ℕ)) (command : Command) (input : List ℕ) (answer : Status) (text : List ℕ) → AsksFor words command →
    ((other : Command) × AsksFor words other × IsAnswerOf other input answer text) → IsAnswerOf command input answer text
asked words command input answer text asks (other, asks_other, given) =
    subst (λ c. IsAnswerOf c input answer text) (asks-one words other command asks_other asks) given

asked-done : (words : List (List ℕ)) (command : Command) (input text : List ℕ) → AsksFor words command →
    IsCommandAnswer words input Done text ⊎ IsMakeAnswer words text → IsAnswerOf command input Done text
asked-done words command input text asks (inl given) = asked words command input Done text asks given
asked-done words command input text asks (inr (n, field, makes, told)) = not-both words command n field asks makes

pub of_command : (words : List (List ℕ)) (command : Command) (input : List ℕ) (answer : Status) (text : List ℕ) →
    AsksFor words command → IsAnswer words input answer text → IsAnswerOf command input answer text
of_command words command input Done text asks given = asked-done words command input text asks given
of_command words command input NotRegular text asks given = asked words command input NotRegular text asks given
of_command words command input Usage text asks given = absurd (given.0 (OfInput command) asks)
of_command words command input (Refused refused) text asks given = asked words command input (Refused refused) text asks given
of_command words command input (TooLong limit) text asks given = asked words command input (TooLong limit) text asks given
of_command words command input (BadCertificate line) text asks given = asked words command input (BadCertificate line) text asks given
of_command words command input ReadFault text asks given = absurd given.2
of_command words command input WriteFault text asks given = absurd given.2
of_command words command input Memory text asks given = absurd given.2
of_command words command input (Rejected rule) text asks given = asked words command input (Rejected rule) text asks given

pub only_for : (words : List (List ℕ)) (command : Command) (left : Option (List ℕ)) (status : Status) → AsksFor words command →
    ((input : List ℕ) (answer : Status) (text : List ℕ) → left ≡ Some input → IsAnswerOf command input answer text → (status ≡ answer) ⊎ (status ≡ Memory)) →
    OnlyAnswer (IsAnswer words) left status
only_for words command left status asks only = λ input answer text is given. only input answer text is (of_command words command input answer text asks given)

pub complete_for : (words : List (List ℕ)) (command : Command) (left : Option (List ℕ)) (status : Status) → AsksFor words command →
    ((input : List ℕ) → left ≡ Some input → length input ≤ limit_of (format_of command) →
    KeepsFormat (command_modulus command) (format_of command) input → HasText status ⊎ (status ≡ Memory)) →
    IsComplete words left status
complete_for words command left status asks done = λ input other is asks_other short keeps.
    let same : other ≡ command = asks-one words other command asks_other asks in
    done input is (subst (λ c. length input ≤ limit_of (format_of c)) same short) (subst (λ c. KeepsFormat (command_modulus c) (format_of c) input) same keeps)

-- a text that is written by the command is one by the words
pub written-for : (words : List (List ℕ)) (command : Command) (input : List ℕ) (status : Status) (text : List ℕ) → AsksFor words command → HasText status →
    IsAnswerOf command input status text → IsAnswer words input status text
written-for words command input status text asks (inl done) answer =
    subst (λ s. IsAnswer words input s text) (sym done) (inl (command, asks, subst (λ s. IsAnswerOf command input s text) done answer))
written-for words command input status text asks (inr other) answer =
    subst (λ s. IsAnswer words input s text) (sym other) (command, asks, subst (λ s. IsAnswerOf command input s text) other answer)

pub cut-for : (words : List (List ℕ)) (command : Command) (left left' written written' : Option (List ℕ)) → AsksFor words command →
    CutShort (IsAnswerOf command) left left' written written' → CutShort (IsAnswer words) left left' written written'
cut-for words command left left' written written' asks cut = record {
  read = cut.read;
  text = cut.text;
  took = cut.took;
  cut = cut.cut;
  status = cut.status;
  whole = cut.whole;
  answer = written-for words command cut.read cut.status cut.text asks cut.whole cut.answer;
}

-- what holds of the command that the words ask for holds of each
pub of_each_asked : (P : Command → Type 0) (words : List (List ℕ)) (command : Command) → AsksFor words command → P command →
    (other : Command) → AsksFor words other → P other
of_each_asked P words command asks holds other asks_other = subst P (asks-one words command other asks asks_other) holds

-- nothing is read and written for words that ask for nothing
pub untaken : (why : WordsError) (most : ℕ) (left : Option (List ℕ)) → TakesBy most (status_of_words why) left left
untaken (Told text) most left = took_none most left
untaken UnknownWord most left = took_none most left
untaken NoMemory most left = took_none most left

usage_answered : (words : List (List ℕ)) (left written : Option (List ℕ)) → AsksForNothing words → Answered (IsAnswer words) left left written written Usage
usage_answered words left written never = record {
  read = [];
  text = [];
  took = took_nothing left;
  appended = appended_nothing written;
  answer = (never, refl);
}

pub unasked_answered : (words : List (List ℕ)) (why : WordsError) (left written : Option (List ℕ)) → IsWhy words why →
    TellsAnswer (status_of_words why) (Answered (IsAnswer words) left left written written (status_of_words why))
unasked_answered words (Told text) left written is = usage_answered words left written (λ request asks. is asks.0)
unasked_answered words UnknownWord left written is = usage_answered words left written is.1
unasked_answered words NoMemory left written is = tt

-- words that ask for nothing have that answer alone
pub usage-only : (words : List (List ℕ)) (input : List ℕ) (answer : Status) (text : List ℕ) → AsksForNothing words → IsAnswer words input answer text →
    Usage ≡ answer
usage-only words input Done text never (inl (command, asks, given)) = absurd (never (OfInput command) asks)
usage-only words input Done text never (inr (n, field, makes, told)) = absurd (never (Make n field) makes)
usage-only words input NotRegular text never (command, asks, given) = absurd (never (OfInput command) asks)
usage-only words input Usage text never given = refl
usage-only words input (Refused refused) text never (command, asks, given) = absurd (never (OfInput command) asks)
usage-only words input (TooLong limit) text never (command, asks, given) = absurd (never (OfInput command) asks)
usage-only words input (BadCertificate line) text never (command, asks, given) = absurd (never (OfInput command) asks)
usage-only words input ReadFault text never (command, asks, given) = absurd (never (OfInput command) asks)
usage-only words input WriteFault text never (command, asks, given) = absurd (never (OfInput command) asks)
usage-only words input Memory text never (command, asks, given) = absurd (never (OfInput command) asks)
usage-only words input (Rejected rule) text never (command, asks, given) = absurd (never (OfInput command) asks)

pub unasked-only : (words : List (List ℕ)) (why : WordsError) (left : Option (List ℕ)) → IsWhy words why →
    OnlyAnswer (IsAnswer words) left (status_of_words why)
unasked-only words (Told told) left is = λ input answer text there given. inl (usage-only words input answer text (λ request asks. is asks.0) given)
unasked-only words UnknownWord left is = λ input answer text there given. inl (usage-only words input answer text is.1 given)
unasked-only words NoMemory left is = λ input answer text there given. inr refl
