-- Several models that are edited and asked by lines.
use Rattle.std.specs.Prelude.{ℕ, ◌≡◌, ◌≢◌, ◌≤◌, ◌+◌, ◌*◌, ◌∷◌, true, List, [], length, max, replicate, slice_index_or}
use Rattle.std.specs.Prelude.{Option, None, Some, codes, unwrap_or}
use Rattle.std.specs.Option.{option_or}
use Rattle.refusals.specs.declared.Why.{Why}
use Rattle.line_lexer.specs.Tokens.{is_clean, words_of}
use Rattle.mixed_matrices.specs.StructuralRanks.{IsStructuralRank}
use Rattle.mixed_model.specs.Models.{IsModel, MixedModel, empty_model, mixed_matrix_of}
use Rattle.mixed_model.specs.Layers.{Layers, layered_matrix_of}
use Rattle.mixed_layering.specs.Layers.{AreLayersOf}
use Rattle.ccf_builder.specs.Canonical.{AreCanonicalLists}
use Rattle.ccf_builder.specs.declared.canonical.Parts.{Parts}
use Rattle.model_edits.specs.Commands.{edit_rule, line_front_rule, model_named}
use Rattle.model_edits.specs.Edits.{IsEditOf}
use Rattle.edit_desk.specs.declared.reply.Reply.{Reply}
use Rattle.edit_desk.specs.declared.reply.Reply.TheVariants.{Changed, Nothing, Parts as Told, Refused}

-- how many models a desk has at most
abbrev pub desk_limit : ℕ
desk_limit = 16

-- so many models, each of them empty
abbrev pub empty_models : ℕ → List MixedModel
empty_models count = replicate count empty_model

-- model k of some
abbrev pub model_at : List MixedModel → ℕ → MixedModel
model_at models k = slice_index_or models k empty_model

-- what follows the number, on the model of that number
abbrev pub behind_rule : ℕ → List MixedModel → List (List ℕ) → Option Why
behind_rule p models [] = None
behind_rule p models (word ∷ []) = None
behind_rule p models (word ∷ number ∷ words) =
    edit_rule p word (model_at models (unwrap_or (model_named (length models) number) 0)) words

-- Why a line is refused where these are the models, if it is.
abbrev pub desk_rule : ℕ → List MixedModel → List ℕ → Option Why
desk_rule p models line =
    option_or (line_front_rule (length models) line) (behind_rule p models (words_of line))

-- the models are as before, but for model k, which is this now
pub record IsReplaced (old new : List MixedModel) (k : ℕ) (model : MixedModel) : Type 0 where
  pub count : length new ≡ length old
  pub here : model_at new k ≡ model
  pub others : (i : ℕ) → i ≢ k → model_at new i ≡ model_at old i

-- the line names model k, by its first word and the words behind its number
pub record NamesModel (count : ℕ) (line : List ℕ) (k : ℕ) (word : List ℕ) (words : List (List ℕ)) : Type 0 where
  pub number : List ℕ
  pub named : model_named count number ≡ Some k
  pub words_are : words_of line ≡ word ∷ number ∷ words

-- the edit that these words say makes this model of a model, which has this rank then
pub record IsEditedTo (p : ℕ) (word : List ℕ) (words : List (List ℕ)) (old new : MixedModel) (rank : ℕ) : Type 0 where
  pub kept : edit_rule p word old words ≡ None
  pub edit : IsEditOf p word words old new
  pub is_model : IsModel p new
  pub rank_is : IsStructuralRank p (mixed_matrix_of new) rank

-- the line is an edit of a model, which has this rank then
pub record IsChangedBy (p : ℕ) (old : List MixedModel) (line : List ℕ) (new : List MixedModel) (rank : ℕ) : Type 0 where
  pub kept : desk_rule p old line ≡ None
  pub model : ℕ
  pub word : List ℕ
  pub words : List (List ℕ)
  pub names : NamesModel (length old) line model word words
  pub changed : MixedModel
  pub edited : IsEditedTo p word words (model_at old model) changed rank
  pub replaced : IsReplaced old new model changed

-- the rank of a model and the canonical parts of its layered matrix
pub record IsToldOfModel (p : ℕ) (model : MixedModel) (rank : ℕ) (parts : Parts) : Type 0 where
  pub rank_is : IsStructuralRank p (mixed_matrix_of model) rank
  pub layers : Layers
  pub layered : AreLayersOf model layers
  pub parts_are : AreCanonicalLists p (layered_matrix_of layers) parts

-- a reply that tells of a model
abbrev pub TellsOfModel : ℕ → MixedModel → Reply → Type 0
TellsOfModel p model Nothing = ⊥
TellsOfModel p model (Refused why) = ⊥
TellsOfModel p model (Changed rank) = ⊥
TellsOfModel p model (Told rank parts) = IsToldOfModel p model rank parts

-- the line asks for a model, of which this is told
pub record IsAsked (p : ℕ) (old : List MixedModel) (line : List ℕ) (rank : ℕ) (parts : Parts) : Type 0 where
  pub kept : desk_rule p old line ≡ None
  pub model : ℕ
  pub names : NamesModel (length old) line model (codes "ask") []
  pub told : IsToldOfModel p (model_at old model) rank parts

-- the reply to a line where the models are these before it, and the models after it
abbrev pub IsReply : ℕ → List MixedModel → List ℕ → List MixedModel → Reply → Type 0
IsReply p old line new Nothing = (is_clean line ≡ true) × (words_of line ≡ []) × (new ≡ old)
IsReply p old line new (Refused why) = (desk_rule p old line ≡ Some why) × (new ≡ old)
IsReply p old line new (Changed rank) = IsChangedBy p old line new rank
IsReply p old line new (Told rank parts) = IsAsked p old line rank parts × (new ≡ old)

-- at most fourteen steps for each column of the layered matrix of model k, before or now, whichever has more
abbrev pub StepsWithin : List MixedModel → ℕ → List MixedModel → ℕ → ℕ → Type 0
StepsWithin old k new steps now =
    (before after : Layers) → AreLayersOf (model_at old k) before → AreLayersOf (model_at new k) after →
    now ≤ steps + 14 * max (layered_matrix_of before).columns (layered_matrix_of after).columns

-- What a reply costs: an edit takes at most so many steps, and anything else takes neither searches nor steps.
abbrev pub HasTicked : List MixedModel → List ℕ → List MixedModel → Type 0 → ℕ → ℕ → Reply → Type 0
HasTicked old line new no_search steps now (Changed rank) =
    (k : ℕ) (word : List ℕ) (words : List (List ℕ)) → NamesModel (length old) line k word words →
    StepsWithin old k new steps now
HasTicked old line new no_search steps now Nothing = no_search × (now ≡ steps)
HasTicked old line new no_search steps now (Refused why) = no_search × (now ≡ steps)
HasTicked old line new no_search steps now (Told rank parts) = no_search × (now ≡ steps)
