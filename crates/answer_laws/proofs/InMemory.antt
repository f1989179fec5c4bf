-- What the sink holds after a run over memory that began with an empty one.
use Rattle.std.proofs.Common.{◌≡◌, ◌≤◌, ◌<◌, ◌+◌, ◌-◌, ◌^◌, ℕ, List, [], ◌++◌, length, Some, inl, inr, refl, subst, sym, ◌∙◌, ap, arith}
use Rattle.port_io.specs.Bytes.{Ended}
use Rattle.port_io.specs.Causes.{Rose}
use Rattle.port_io.specs.Memory.{MemorySink, MemorySource, TakesMore}
use Rattle.command_line.specs.Words.{AsksFor}
use Rattle.command_line.specs.declared.command.Command.{Command}
use Rattle.run_ends.specs.Answers.{Answered, EachTextFits}
use Rattle.run_ends.specs.Ways.{ReadsAll, TellsAnswer}
use Rattle.report_cli.specs.Answer.{IsAnswer}
use Rattle.run_ends.specs.declared.status.Status.{Status}
use Rattle.run_ends.specs.declared.status.Status.TheVariants.{BadCertificate, Done, Memory, NotRegular, ReadFault}
use Rattle.run_ends.specs.declared.status.Status.TheVariants.{Refused, Rejected, TooLong, Usage, WriteFault}
use Rattle.answer_laws.specs.InMemory.{AnswersInMemory, IsAnswered, IsAnsweredBy}

pub answered_by : (words : List (List ℕ)) (input : List ℕ) (source source' : MemorySource) (out out' : MemorySink) (status : Status) →
    source.left ≡ input → out.written ≡ [] → AnswersInMemory words source source' out out' status → IsAnsweredBy words input status out'.written
answered_by words input source source' out out' status left empty (inr memory) = inr memory
answered_by words input source source' out out' status left empty (inl answered) = inl (record {
  read = answered.read;
  rest = source'.left;
  took = sym left ∙ answered.took;
  ended = answered.ended;
  answer = subst
      (λ text. IsAnswer words answered.read status text)
      (sym (answered.appended ∙ ap (λ written. written ++ answered.text) empty))
      answered.answer;
})

-- a count that is as before did not rise
pub unrisen : (before now : ℕ) → before < 2 ^ 64 - 1 → now ≡ before → Rose before now → ⊥
unrisen before now small same rose = omega (arith, small, same, rose)

-- room in the sink is room that it takes
pub room-taken : (out : MemorySink) (words : List (List ℕ)) (input : List ℕ) → out.fails ≡ [] →
    EachTextFits (IsAnswer words) (λ size. length out.written + size ≤ out.room) input → EachTextFits (IsAnswer words) (TakesMore out) input
room-taken out words input never room = λ status text has answer. record { none = never; room = room status text has answer }

-- what a run over memory answers, where no call failed
module _ (words : List (List ℕ)) (source source' : MemorySource) (out out' : MemorySink) where
  answered-so : (status : Status) → Answered (IsAnswer words) (Some source.left) (Some source'.left) (Some out.written) (Some out'.written) status →
      ((command : Command) → AsksFor words command → ReadsAll status (Ended (Some source'.left))) → IsAnswered words source source' out out' status
  answered-so status a ended = record {
    read = a.read;
    text = a.text;
    took = a.took;
    ended = ended;
    appended = a.appended;
    answer = a.answer;
  }

  pub in-memory : (status : Status) →
      TellsAnswer status (Answered (IsAnswer words) (Some source.left) (Some source'.left) (Some out.written) (Some out'.written) status) →
      ((command : Command) → AsksFor words command → ReadsAll status (Ended (Some source'.left))) →
      (status ≡ ReadFault → ⊥) → (status ≡ WriteFault → ⊥) → AnswersInMemory words source source' out out' status
  in-memory Done a ended no_read no_write = inl (answered-so Done a ended)
  in-memory NotRegular a ended no_read no_write = inl (answered-so NotRegular a ended)
  in-memory Usage a ended no_read no_write = inl (answered-so Usage a ended)
  in-memory (Refused refused) a ended no_read no_write = inl (answered-so (Refused refused) a ended)
  in-memory (TooLong limit) a ended no_read no_write = inl (answered-so (TooLong limit) a ended)
  in-memory (BadCertificate line) a ended no_read no_write = inl (answered-so (BadCertificate line) a ended)
  in-memory ReadFault a ended no_read no_write = absurd (no_read refl)
  in-memory WriteFault a ended no_read no_write = absurd (no_write refl)
  in-memory Memory a ended no_read no_write = inr refl
  in-memory (Rejected rule) a ended no_read no_write = inl (answered-so (Rejected rule) a ended)
