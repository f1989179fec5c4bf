-- Runs over memory.
use Rattle.std.specs.Prelude.{◌≡◌, ◌⊎◌, ℕ, ◌+◌, ◌-◌, ◌^◌, ◌≤◌, ◌<◌, List, [], ◌++◌, length}
use Rattle.port_io.specs.Memory.{MemorySink, MemorySource}
use Rattle.command_line.specs.Words.{AsksFor}
use Rattle.command_line.specs.declared.command.Command.{Command}
use Rattle.run_ends.specs.Answers.{EachTextFits}
use Rattle.run_ends.specs.Ways.{ReadsAll}
use Rattle.report_cli.specs.Answer.{IsAnswer}
use Rattle.run_ends.specs.declared.status.Status.{Status}
use Rattle.run_ends.specs.declared.status.Status.TheVariants.{Memory}

-- no call is to fail, no count of faults stands at its last value, and the sink has room for each text that answers the
-- input by these words
pub record IsCalm (words : List (List ℕ)) (source : MemorySource) (out : MemorySink) : Type 0 where
  pub source_fails : source.fails ≡ []
  pub out_fails : out.fails ≡ []
  pub source_count : source.faults < 2 ^ 64 - 1
  pub out_count : out.faults < 2 ^ 64 - 1
  pub room : EachTextFits (IsAnswer words) (λ size. length out.written + size ≤ out.room) source.left

-- a run took the bytes `read` from the source, all of them where a command tells of the whole input, and this status
-- and the appended text answer them
pub record IsAnswered (words : List (List ℕ)) (source source' : MemorySource) (out out' : MemorySink)
    (status : Status) : Type 0 where
  pub read : List ℕ
  pub text : List ℕ
  pub took : source.left ≡ read ++ source'.left
  pub ended : (command : Command) → AsksFor words command → ReadsAll status (source'.left ≡ [])
  pub appended : out'.written ≡ out.written ++ text
  pub answer : IsAnswer words read status text

-- the run is answered, or memory ran out
abbrev pub AnswersInMemory : List (List ℕ) → MemorySource → MemorySource → MemorySink → MemorySink → Status → Type 0
AnswersInMemory words source source' out out' status = IsAnswered words source source' out out' status
    ⊎ (status ≡ Memory)

-- of the input `read` was taken, all of it where a command tells of the whole input, and this status and this text
-- answer what was taken
pub record IsAnswerTo (words : List (List ℕ)) (input : List ℕ) (status : Status) (text : List ℕ) : Type 0 where
  pub read : List ℕ
  pub rest : List ℕ
  pub took : input ≡ read ++ rest
  pub ended : (command : Command) → AsksFor words command → ReadsAll status (rest ≡ [])
  pub answer : IsAnswer words read status text

-- the input is answered, or memory ran out
abbrev pub IsAnsweredBy : List (List ℕ) → List ℕ → Status → List ℕ → Type 0
IsAnsweredBy words input status text = IsAnswerTo words input status text ⊎ (status ≡ Memory)
