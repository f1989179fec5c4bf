-- What the lines of a head give, each line as its words: numbers for equations, and for places of a model.
use Rattle.std.specs.Prelude.{◌≡◌, ℕ, ◌+◌, Bool, true, not, ◌&&◌, List, [], ◌∷◌, ◌++◌, find, length, map, nat_eq, nat_le}
use Rattle.std.specs.Prelude.{if◌then◌else◌, Option, Some, None, Result, Ok, Err, option_map}
use Rattle.std.specs.Char.{is_ascii_digit}
use Rattle.std.specs.List.{list_all}
use Rattle.std.specs.Result.{result_unwrap_or}
use Rattle.std.specs.Str.{bytes_eq}
use Rattle.std.specs.Str.Parse.{digits_value}
use Rattle.refusals.specs.declared.Why.{Why}
use Rattle.refusals.specs.declared.Why.TheVariants.{BadNumber}
use Rattle.line_lexer.specs.Lines.{lines_of}
use Rattle.line_lexer.specs.Numbers.{number_of}
use Rattle.line_lexer.specs.Tokens.{words_of}
use Rattle.problem_heads.specs.Heads.{head_of}
use Rattle.problem_heads.specs.declared.form.Form.{Form}
use Rattle.problem_heads.specs.declared.form.Form.TheVariants.{Repair, Solve}

-- A number that a line of a head gives: the number of the line, from 1, the names between its first word and its last
-- one, and the number itself. One name is that of an equation; two are those of an equation and of an unknown.
pub record HeadNumber (N : Type 0) : Type 0 where
  pub line : ℕ
  pub names : List (List ℕ)
  pub number : N

-- names as one text: each with a blank behind it
abbrev pub spaced_names : List (List ℕ) → List ℕ
spaced_names [] = []
spaced_names (name ∷ names) = name ++ 32 ∷ spaced_names names

-- whether some names, in which no blank stands, are those
abbrev pub are_same_names : List (List ℕ) → List (List ℕ) → Bool
are_same_names names others = bytes_eq (spaced_names names) (spaced_names others)

-- no blank stands in a name
abbrev pub HasNoBlank : List ℕ → Type 0
HasNoBlank name = list_all (λ byte. not (nat_eq byte 32)) name ≡ true

-- the names of one word, and perhaps of another one
abbrev pub names_of : List ℕ → Option (List ℕ) → List (List ℕ)
names_of equation None = equation ∷ []
names_of equation (Some unknown) = equation ∷ unknown ∷ []

-- A cost: 1 to 9 digits.
abbrev pub is_cost : List ℕ → Bool
is_cost text = nat_le 1 (length text) && nat_le (length text) 9 && list_all is_ascii_digit text

-- the cost that a text is
abbrev pub cost_of : List ℕ → Result ℕ Why
cost_of text = if is_cost text then Ok (digits_value 10 text) else Err BadNumber

-- The number that ends a line: a value of the field of p elements, or a cost.
abbrev pub head_number : ℕ → Form → List ℕ → Result ℕ Why
head_number p Solve text = number_of p text
head_number p Repair text = cost_of text

-- what a line gives for these names by this text of a number
abbrev pub number_given : ℕ → Form → ℕ → List (List ℕ) → List ℕ → HeadNumber ℕ
number_given p form line names text =
    record { line = line; names = names; number = result_unwrap_or (head_number p form text) 0 }

-- what the words after the first one of a line give: names, and then a number
abbrev pub numbers_behind : ℕ → Form → ℕ → List (List ℕ) → List (HeadNumber ℕ)
numbers_behind p form line [] = []
numbers_behind p form line (word ∷ []) = []
numbers_behind p form line (equation ∷ text ∷ []) = number_given p form line (equation ∷ []) text ∷ []
numbers_behind p form line (equation ∷ unknown ∷ text ∷ []) =
    number_given p form line (equation ∷ unknown ∷ []) text ∷ []
numbers_behind p form line (equation ∷ unknown ∷ text ∷ next ∷ words) = []

-- what a line gives
abbrev pub numbers_in_line : ℕ → Form → ℕ → List (List ℕ) → List (HeadNumber ℕ)
numbers_in_line p form line [] = []
numbers_in_line p form line (word ∷ words) = numbers_behind p form line words

-- what some lines give, of which the first one has this number
abbrev pub numbers_from : ℕ → Form → ℕ → List (List (List ℕ)) → List (HeadNumber ℕ)
numbers_from p form line [] = []
numbers_from p form line (words ∷ lines) = numbers_in_line p form line words ++ numbers_from p form (line + 1) lines

-- what the lines of a head give
abbrev pub head_numbers : ℕ → Form → List (List (List ℕ)) → List (HeadNumber ℕ)
head_numbers p form lines = numbers_from p form 1 lines

-- what the head of a text gives
abbrev pub numbers_of_head : ℕ → Form → List ℕ → List (HeadNumber ℕ)
numbers_of_head p form text = head_numbers p form (map words_of (lines_of (head_of text)))

-- the number that is given for these names, where there is one
abbrev pub number_for : {N : Type 0} → List (HeadNumber N) → List (List ℕ) → Option N
number_for numbers names = option_map (λ given. given.number) (find (λ given. are_same_names names given.names) numbers)
