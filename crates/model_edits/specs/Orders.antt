-- A line as a command, and a model after it.
use Rattle.std.specs.Prelude.{ℕ, ◌≡◌, ◌∷◌, true, List, [], None, Some, Result, Ok, Err, codes, map}
use Rattle.refusals.specs.declared.Why.{Why}
use Rattle.line_lexer.specs.Tokens.{is_clean, words_of}
use Rattle.mixed_edit_laws.specs.Changes.{IsAdded, IsChanged, IsRemoved}
use Rattle.mixed_model.specs.Models.{MixedModel, mixed_matrix_of}
use Rattle.model_edits.specs.Commands.{front_rule, model_named}
use Rattle.model_edits.specs.declared.edited.Edited.{Edited}
use Rattle.model_edits.specs.declared.edited.Edited.TheVariants.{Added, Changed, Removed}
use Rattle.model_edits.specs.declared.order.Edit.{Edit}
use Rattle.model_edits.specs.declared.order.Edit.TheVariants.{Add, Clear, Remove, Set}
use Rattle.model_edits.specs.declared.order.Order.{Order}
use Rattle.model_edits.specs.declared.order.Task.{Task}
use Rattle.model_edits.specs.declared.order.Task.TheVariants.{Ask, Change}

-- the first word of an edit
abbrev pub edit_word : Edit → List ℕ
edit_word (Add name items) = codes "add"
edit_word (Remove name) = codes "drop"
edit_word (Set name item) = codes "set"
edit_word (Clear name unknown) = codes "clear"

-- the words behind its number
abbrev pub words_behind : Edit → List (List ℕ)
words_behind (Add name items) = name.now ∷ map (λ item. item.1) items
words_behind (Remove name) = name.now ∷ []
words_behind (Set name item) = name.now ∷ item.now ∷ []
words_behind (Clear name unknown) = name.now ∷ unknown.now ∷ []

-- the words of a task, where this is the word of its number
abbrev pub task_words : Task → List ℕ → List (List ℕ)
task_words Ask number = codes "ask" ∷ number ∷ []
task_words (Change edit) number = edit_word edit ∷ number ∷ words_behind edit

-- the words say so, where there are so many models
pub record SayOrder (count : ℕ) (words : List (List ℕ)) (order : Order) : Type 0 where
  pub number : List ℕ
  pub named : model_named count number ≡ Some order.model
  pub words_are : words ≡ task_words order.task number

-- the words are not refused as far as their number, and say this, or they are refused for this
abbrev pub AnswersOrder : ℕ → List (List ℕ) → Result Order Why → Type 0
AnswersOrder count words (Ok order) = (front_rule count words ≡ None) × SayOrder count words order
AnswersOrder count words (Err why) = front_rule count words ≡ Some why

-- the line says so, where there are so many models
pub record IsSaidOrder (count : ℕ) (line : List ℕ) (order : Order) : Type 0 where
  pub clean : is_clean line ≡ true
  pub says : SayOrder count (words_of line) order

-- the model after an edit
abbrev pub model_of : {F : Type 0} → Edited F → MixedModel
model_of (Added model) = model
model_of (Removed model equation) = model
model_of (Changed model equation) = model

-- how its mixed matrix is changed
abbrev pub IsChangeOf : {F : Type 0} → MixedModel → Edited F → Type 0
IsChangeOf old (Added model) = IsAdded (mixed_matrix_of old) (mixed_matrix_of model)
IsChangeOf old (Removed model equation) = IsRemoved (mixed_matrix_of old) (mixed_matrix_of model) equation
IsChangeOf old (Changed model equation) = IsChanged (mixed_matrix_of old) (mixed_matrix_of model) equation
