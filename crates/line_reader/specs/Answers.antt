-- What reading a line answers.
use Rattle.std.specs.Prelude.{◌≡◌, ℕ, ◌+◌, List, [], ◌∷◌, ◌++◌, length, Option, Some, None, Result, Ok, Err}
use Rattle.refusals.specs.declared.Why.{Why}
use Rattle.line_reader.specs.LineRules.{Rules, WordsRule, line_rule, words_in}
use Rattle.refusals.specs.declared.fault.Fault.{Fault}
use Rattle.refusals.specs.declared.fault.Fault.TheVariants.{Broken, NoMemory}

-- where a rule is kept, this is left; else the answer is why it is broken, or memory ran out
abbrev pub AnswersRule : Option Why → Type 0 → Result (Unit {0}) Fault → Type 0
AnswersRule rule Left (Ok _) = (rule ≡ None) × Left
AnswersRule rule Left (Err (Broken why)) = rule ≡ Some why
AnswersRule rule Left (Err NoMemory) = Unit {0}

-- What reading a line by its words answers and leaves, whatever was read before it. It has this number.
abbrev pub ReadsWords : {R : Type 0} → WordsRule → (R → List (List (List ℕ)) → Type 0) → ℕ → R → R → List (List ℕ)
    → Result (Unit {0}) Fault → Type 0
ReadsWords rule has_read number old new words result =
    (before : List (List (List ℕ))) → has_read old before → length before + 1 ≡ number
    → AnswersRule (rule before words) (has_read new (before ++ words ∷ [])) result

-- and by its bytes
abbrev pub ReadsBytes : {R : Type 0} → Rules → (R → List (List (List ℕ)) → Type 0) → ℕ → R → R → List ℕ
    → Result (Unit {0}) Fault → Type 0
ReadsBytes rules has_read number old new line result =
    (before : List (List (List ℕ))) → has_read old before → length before + 1 ≡ number
    → AnswersRule (line_rule rules before line) (has_read new (before ++ words_in rules line ∷ [])) result
