-- The model that a text gives, and the first rule that it breaks.
use Rattle.std.specs.Prelude.{◌≡◌, ℕ, ◌<◌, Bool, ◌&&◌, List, [], length, map, sum_by, if◌then◌else◌, slice_index_or}
use Rattle.std.specs.List.{list_any}
use Rattle.std.specs.Str.{bytes_eq}
use Rattle.refusals.specs.declared.Why.{Why}
use Rattle.refusals.specs.declared.ReadModel.{ReadModel}
use Rattle.line_lexer.specs.Lines.{lines_of}
use Rattle.line_lexer.specs.Tokens.{words_of}
use Rattle.line_reader.specs.LineRules.{KeepsAll, IsFirstBroken as IsFirst, IsRefusal as IsWhy}
use Rattle.mixed_model.specs.Models.{MixedModel, IsModel, constant_at, symbol_of}
use Rattle.matrix_reader.specs.Items.{unknown_of, item_constant, item_symbol}
use Rattle.matrix_reader.specs.EquationLists.{Equation, equations_in, unknowns_in}
use Rattle.matrix_reader.specs.Rules.{list_rules}

-- what some items say of an unknown: the sum of their constants there
abbrev pub said_of : ℕ → List (List ℕ) → List ℕ → ℕ
said_of p items unknown = sum_by (λ item. if bytes_eq unknown (unknown_of item) then item_constant p item else 0) items

-- whether some items say that a symbol stands at an unknown
abbrev pub symbol_said : List (List ℕ) → List ℕ → Bool
symbol_said items unknown = list_any (λ item. bytes_eq unknown (unknown_of item) && item_symbol item) items

-- the items of equation i
abbrev pub items_at : List Equation → ℕ → List (List ℕ)
items_at equations i = slice_index_or (map (λ equation. equation.items) equations) i []

-- The model of some equations and unknowns: their names, and at each place what the equation's items say of the
-- unknown.
pub record IsModelOf (p : ℕ) (list : List Equation) (unknowns : List (List ℕ)) (model : MixedModel) : Type 0 where
  pub is_model : IsModel p model
  pub equations_are : model.equations ≡ map (λ equation. equation.name) list
  pub unknowns_are : model.unknowns ≡ unknowns
  pub constants_are : (i j : ℕ) → i < length list → j < length model.unknowns
      → constant_at model i j ≡ said_of p (items_at list i) (slice_index_or model.unknowns j [])
  pub symbols_are : (i j : ℕ) → i < length list → j < length model.unknowns
      → symbol_of model i j ≡ symbol_said (items_at list i) (slice_index_or model.unknowns j [])

-- the model that lines give by their words
abbrev pub LinesGive : ℕ → List (List (List ℕ)) → MixedModel → Type 0
LinesGive p lines model = IsModelOf p (equations_in lines) (unknowns_in lines) model

-- A text gives a model: each line keeps the rules, and the model is that of the lines.
pub record GivesModel (p : ℕ) (text : List ℕ) (model : MixedModel) : Type 0 where
  pub kept : KeepsAll (list_rules p) text
  pub given : LinesGive p (map words_of (lines_of text)) model

-- The first broken rule of a text: line n, counted from 0, is the first that breaks one, and this is why.
abbrev pub IsFirstBroken : ℕ → List ℕ → ℕ → Why → Type 0
IsFirstBroken p text n why = IsFirst (list_rules p) text n why

-- Why a text is not read: its first broken rule and the line of it, counted from 1, or memory ran out.
abbrev pub IsRefusal : ℕ → List ℕ → ReadModel → Type 0
IsRefusal p text why = IsWhy (list_rules p) text why
