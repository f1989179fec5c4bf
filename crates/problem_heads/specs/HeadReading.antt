-- What a reader of heads knows between two lines, and what reading a line answers and leaves.
use Rattle.std.specs.Prelude.{◌≡◌, ℕ, List, [], ◌∷◌, ◌++◌, length, map, Option, Result}
use Rattle.refusals.specs.declared.Why.{Why}
use Rattle.refusals.specs.declared.fault.Fault.{Fault}
use Rattle.line_reader.specs.Answers.{AnswersRule}
use Rattle.problem_heads.specs.HeadNumbers.{HeadNumber, numbers_behind, head_numbers, numbers_in_line}
use Rattle.problem_heads.specs.HeadRules.{fresh_names_rule, head_words_rule}
use Rattle.problem_heads.specs.declared.form.Form.{Form}

-- how many lines were read, and the numbers that they gave
pub record HeadParts (N : Type 0) : Type 0 where
  pub lines : ℕ
  pub numbers : List (HeadNumber N)

-- what was given, by its number
abbrev pub told_by : {N : Type 0} → (N → ℕ) → HeadNumber N → HeadNumber ℕ
told_by number given = record { line = given.line; names = given.names; number = number given.number }

-- and all that was read
abbrev pub parts_told_by : {N : Type 0} → (N → ℕ) → HeadParts N → HeadParts ℕ
parts_told_by number parts = record { lines = parts.lines; numbers = map (told_by number) parts.numbers }

-- this is what was read after the line of this number
abbrev pub IsAfterLine : {N : Type 0} → ℕ → HeadParts N → HeadParts N → List (HeadNumber N) → Type 0
IsAfterLine line old new given = new ≡ record { lines = line; numbers = old.numbers ++ given }

-- what adding a number answers and leaves
abbrev pub AddsNumber : {N : Type 0} → HeadParts N → HeadParts N → HeadNumber N → Result (Unit {0}) Fault → Type 0
AddsNumber old new given result =
    AnswersRule (fresh_names_rule old.numbers given.names) (IsAfterLine given.line old new (given ∷ [])) result

-- what reading the words after the first one answers and leaves, by the rule of them
abbrev pub ReadsBehind : ℕ → Form → ℕ → HeadParts ℕ → HeadParts ℕ → List (List ℕ) → Option Why
    → Result (Unit {0}) Fault → Type 0
ReadsBehind p form line old new words rule result =
    AnswersRule rule (IsAfterLine line old new (numbers_behind p form line words)) result

-- What reading a line answers and leaves.
abbrev pub ReadsHeadLine : ℕ → Form → ℕ → HeadParts ℕ → HeadParts ℕ → List (List ℕ) → Result (Unit {0}) Fault → Type 0
ReadsHeadLine p form line old new words result =
    AnswersRule (head_words_rule p form old.numbers words)
    (IsAfterLine line old new (numbers_in_line p form line words)) result

-- These lines, by their words, were read.
pub record HasReadLines (p : ℕ) (form : Form) (parts : HeadParts ℕ) (lines : List (List (List ℕ))) : Type 0 where
  pub count : parts.lines ≡ length lines
  pub numbers_are : parts.numbers ≡ head_numbers p form lines
