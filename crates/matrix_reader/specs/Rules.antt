-- The rules of an equation list: each is a condition on one line and on the lines before it, and answers why it is
-- broken, or None where it is kept. Of several the first one that is broken counts.
use Rattle.std.specs.Prelude.{ℕ, ◌||◌, List, [], ◌∷◌, ◌++◌, length, codes, if◌then◌else◌, nat_lt, Option, Some, None}
use Rattle.std.specs.Option.{option_or}
use Rattle.std.specs.Result.{result_err}
use Rattle.std.specs.Str.{bytes_eq}
use Rattle.limits.specs.Limits.{equation_limit}
use Rattle.refusals.specs.declared.Why.{Why}
use Rattle.refusals.specs.declared.Why.TheVariants.{BadWord, BadShape, BadName, Twice, TooMany}
use Rattle.line_lexer.specs.Names.{is_name}
use Rattle.line_lexer.specs.Numbers.{number_of}
use Rattle.line_reader.specs.LineRules.{Rules}
use Rattle.mixed_model.specs.Names.{has_name}
use Rattle.matrix_reader.specs.Items.{has_equals_sign, unknown_of, value_of, is_symbol, number_text}
use Rattle.matrix_reader.specs.EquationLists.{equation_names, names_in, unknowns_in}

-- a rule of each of some words, given the words of the line before it: first the earlier ones, then these
abbrev pub each_rule : (List (List ℕ) → List ℕ → Option Why) → List (List ℕ) → List (List ℕ) → Option Why
each_rule rule earlier [] = None
each_rule rule earlier (word ∷ words) = option_or (rule earlier word) (each_rule rule (earlier ++ word ∷ []) words)

abbrev pub name_rule : List ℕ → Option Why
name_rule name = if is_name name then None else Some BadName

-- an unknown is there, or is one of the first 4,096
abbrev pub room_rule : List (List ℕ) → List ℕ → Option Why
room_rule unknowns unknown = if has_name unknowns unknown || nat_lt (length unknowns) equation_limit
    then None else Some TooMany

-- the name of an equation: it is new, and one of the first 4,096
abbrev pub new_equation_rule : List (List ℕ) → List ℕ → Option Why
new_equation_rule equations name =
    if has_name equations name then Some Twice else (if nat_lt (length equations) equation_limit then None
    else Some TooMany)

abbrev pub equation_rule : List (List (List ℕ)) → List ℕ → Option Why
equation_rule before name = option_or (name_rule name) (new_equation_rule (equation_names before) name)

-- a value: a symbol, or a number, which a symbol may follow
abbrev pub value_rule : ℕ → List ℕ → Option Why
value_rule p value = if is_symbol value then None else result_err (number_of p (number_text value))

-- an item by itself
abbrev pub term_rule : ℕ → List ℕ → Option Why
term_rule p item =
    if has_equals_sign item then option_or (name_rule (unknown_of item)) (value_rule p (value_of item))
    else Some BadShape

-- the unknown of an item: it does not stand earlier in the line
abbrev pub place_rule : List (List (List ℕ)) → List (List ℕ) → List ℕ → Option Why
place_rule before earlier unknown =
    if has_name (names_in earlier) unknown then Some Twice else room_rule (unknowns_in (before ++ earlier ∷ [])) unknown

abbrev pub item_rule : ℕ → List (List (List ℕ)) → List (List ℕ) → List ℕ → Option Why
item_rule p before earlier item = option_or (term_rule p item) (place_rule before earlier (unknown_of item))

-- a name in an `unknown` line
abbrev pub unknown_rule : List (List (List ℕ)) → List (List ℕ) → List ℕ → Option Why
unknown_rule before earlier name = option_or (name_rule name) (room_rule (unknowns_in (before ++ earlier ∷ [])) name)

-- an `eq` line, by the words after its first one
abbrev pub equation_line_rule : ℕ → List (List (List ℕ)) → List (List ℕ) → Option Why
equation_line_rule p before [] = Some BadShape
equation_line_rule p before (name ∷ items) =
    option_or (equation_rule before name) (each_rule (item_rule p before) (codes "eq" ∷ name ∷ []) items)

-- an `unknown` line, by the words after its first one
abbrev pub unknown_line_rule : List (List (List ℕ)) → List (List ℕ) → Option Why
unknown_line_rule before [] = Some BadShape
unknown_line_rule before (name ∷ names) = each_rule (unknown_rule before) (codes "unknown" ∷ []) (name ∷ names)

-- A line by its words, given the words of the lines before it.
abbrev pub words_rule : ℕ → List (List (List ℕ)) → List (List ℕ) → Option Why
words_rule p before [] = None
words_rule p before (word ∷ words) =
    if bytes_eq word (codes "eq") then equation_line_rule p before words
    else (if bytes_eq word (codes "unknown") then unknown_line_rule before words else Some BadWord)

-- The rules of an equation list: no line is a comment as a whole.
abbrev pub list_rules : ℕ → Rules
list_rules p = record { remark = None; words = words_rule p }
