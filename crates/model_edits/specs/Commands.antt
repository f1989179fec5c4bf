-- The commands of a desk, and why one is refused: of several rules the first one that is broken counts.
use Rattle.std.specs.Prelude.{ℕ, ◌||◌, Bool, List, [], ◌∷◌, codes, decimal, fold, length, map, nat_eq, nat_le, if◌then◌else◌}
use Rattle.std.specs.Prelude.{position, Option, Some, None, is_some}
use Rattle.std.specs.List.{range_with_len}
use Rattle.std.specs.Option.{option_or}
use Rattle.std.specs.Str.{bytes_eq}
use Rattle.refusals.specs.declared.Why.{Why}
use Rattle.refusals.specs.declared.Why.TheVariants.{BadByte, BadNumber, BadShape, BadWord, Twice, Undeclared}
use Rattle.line_lexer.specs.Tokens.{is_clean, words_of}
use Rattle.mixed_model.specs.Models.{MixedModel}
use Rattle.mixed_model.specs.Names.{has_name, see}
use Rattle.matrix_reader.specs.Items.{unknown_of}
use Rattle.matrix_reader.specs.Rules.{each_rule, name_rule, new_equation_rule, room_rule, term_rule}

-- this reason, unless that holds
abbrev pub unless_kept : Bool → Why → Option Why
unless_kept holds why = if holds then None else Some why

-- a first word is that of a command, and so many words may follow it
abbrev pub command_shape_rule : List ℕ → ℕ → Option Why
command_shape_rule word count =
    if bytes_eq word (codes "add") then unless_kept (nat_le 2 count) BadShape
    else (if bytes_eq word (codes "drop") then unless_kept (nat_eq count 2) BadShape
    else (if bytes_eq word (codes "set") || bytes_eq word (codes "clear") then unless_kept (nat_eq count 3) BadShape
    else (if bytes_eq word (codes "ask") then unless_kept (nat_eq count 1) BadShape else Some BadWord)))

-- which of so many models a word names, counted from 0: the word of the first one is 1, in decimal digits
abbrev pub model_named : ℕ → List ℕ → Option ℕ
model_named count word = position (bytes_eq word) (map decimal (range_with_len 1 count))

-- the word behind the first one is the number of a model
abbrev pub model_number_rule : ℕ → List (List ℕ) → Option Why
model_number_rule count [] = None
model_number_rule count (number ∷ words) = unless_kept (is_some (model_named count number)) BadNumber

-- a command as far as its number, where there are so many models
abbrev pub front_rule : ℕ → List (List ℕ) → Option Why
front_rule count [] = None
front_rule count (word ∷ words) = option_or (command_shape_rule word (length words)) (model_number_rule count words)

-- a line as far as the number
abbrev pub line_front_rule : ℕ → List ℕ → Option Why
line_front_rule count line = if is_clean line then front_rule count (words_of line) else Some BadByte

-- an equation or an unknown is there
abbrev pub there_rule : List (List ℕ) → List ℕ → Option Why
there_rule names name = option_or (name_rule name) (unless_kept (has_name names name) Undeclared)

-- an item, where these stand earlier in the line
abbrev pub added_item_rule : ℕ → MixedModel → List (List ℕ) → List ℕ → Option Why
added_item_rule p model earlier item =
    option_or (term_rule p item) (if has_name (map unknown_of earlier) (unknown_of item) then Some Twice
    else room_rule (fold see model.unknowns (map unknown_of earlier)) (unknown_of item))

-- the items of a line
abbrev pub items_rule : ℕ → MixedModel → List (List ℕ) → Option Why
items_rule p model items = each_rule (added_item_rule p model) [] items

-- the unknowns of a line are there
abbrev pub unknowns_rule : MixedModel → List (List ℕ) → Option Why
unknowns_rule model unknowns = each_rule (λ earlier unknown. there_rule model.unknowns unknown) [] unknowns

-- what follows the number, on the model of that number
abbrev pub edit_rule : ℕ → List ℕ → MixedModel → List (List ℕ) → Option Why
edit_rule p word model [] = None
edit_rule p word model (name ∷ words) =
    if bytes_eq word (codes "add")
    then option_or (name_rule name) (option_or (new_equation_rule model.equations name) (items_rule p model words))
    else option_or (there_rule model.equations name)
    (if bytes_eq word (codes "set") then items_rule p model words else unknowns_rule model words)
