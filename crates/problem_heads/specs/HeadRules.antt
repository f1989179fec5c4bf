-- The rules of the lines of a head: each line is given with the words of the lines before it. Of several rules the
-- first one that is broken counts.
use Rattle.std.specs.Prelude.{ℕ, List, [], ◌∷◌, codes, if◌then◌else◌, Option, Some, None}
use Rattle.std.specs.List.{list_any}
use Rattle.std.specs.Option.{option_or}
use Rattle.std.specs.Result.{result_err}
use Rattle.std.specs.Str.{bytes_eq}
use Rattle.refusals.specs.declared.Why.{Why}
use Rattle.refusals.specs.declared.Why.TheVariants.{BadShape, BadWord, Twice}
use Rattle.line_reader.specs.LineRules.{Rules}
use Rattle.problem_heads.specs.HeadNumbers.{HeadNumber, are_same_names, head_number, head_numbers}
use Rattle.problem_heads.specs.declared.form.Form.{Form}
use Rattle.problem_heads.specs.declared.form.Form.TheVariants.{Repair, Solve}

-- no earlier line gives a number for these names
abbrev pub fresh_names_rule : {N : Type 0} → List (HeadNumber N) → List (List ℕ) → Option Why
fresh_names_rule given names =
    if list_any (λ earlier. are_same_names names earlier.names) given then Some Twice else None

-- names, and the text of their number
abbrev pub given_rule : ℕ → Form → List (HeadNumber ℕ) → List (List ℕ) → List ℕ → Option Why
given_rule p form given names text =
    option_or (result_err (head_number p form text)) (fresh_names_rule given names)

-- the words after the first one, where they are an equation and a number
abbrev pub equation_number_rule : ℕ → Form → List (HeadNumber ℕ) → List (List ℕ) → Option Why
equation_number_rule p form given [] = Some BadShape
equation_number_rule p form given (equation ∷ []) = Some BadShape
equation_number_rule p form given (equation ∷ text ∷ []) = given_rule p form given (equation ∷ []) text
equation_number_rule p form given (equation ∷ text ∷ next ∷ words) = Some BadShape

-- the words after the first one, where they are an equation, an unknown and a number
abbrev pub place_number_rule : ℕ → Form → List (HeadNumber ℕ) → List (List ℕ) → Option Why
place_number_rule p form given [] = Some BadShape
place_number_rule p form given (equation ∷ []) = Some BadShape
place_number_rule p form given (equation ∷ unknown ∷ []) = Some BadShape
place_number_rule p form given (equation ∷ unknown ∷ text ∷ []) =
    given_rule p form given (equation ∷ unknown ∷ []) text
place_number_rule p form given (equation ∷ unknown ∷ text ∷ next ∷ words) = Some BadShape

-- the words after `model`: there are none
abbrev pub model_word_rule : List (List ℕ) → Option Why
model_word_rule [] = None
model_word_rule (word ∷ words) = Some BadShape

-- A line by its words, where earlier lines gave these numbers.
abbrev pub head_words_rule : ℕ → Form → List (HeadNumber ℕ) → List (List ℕ) → Option Why
head_words_rule p form given [] = None
head_words_rule p Solve given (word ∷ words) =
    if bytes_eq word (codes "value") then place_number_rule p Solve given words
    else (if bytes_eq word (codes "right") then equation_number_rule p Solve given words
    else (if bytes_eq word (codes "model") then model_word_rule words else Some BadWord))
head_words_rule p Repair given (word ∷ words) =
    if bytes_eq word (codes "cost") then equation_number_rule p Repair given words
    else (if bytes_eq word (codes "model") then model_word_rule words else Some BadWord)

-- and where these are the words of the lines before it
abbrev pub head_line_rule : ℕ → Form → List (List (List ℕ)) → List (List ℕ) → Option Why
head_line_rule p form before words = head_words_rule p form (head_numbers p form before) words

-- The rules of a head: no line is a comment as a whole.
abbrev pub head_rules : ℕ → Form → Rules
head_rules p form = record { remark = None; words = head_line_rule p form }
