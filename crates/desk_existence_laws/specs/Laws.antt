-- There is what a desk answers: a model after each edit, what is told of each model, a reply to each line, and what is
-- printed of each text.
use Rattle.std.specs.Prelude.{ℕ, ◌≡◌, ◌<◌, ◌∷◌, List, length, None}
use Rattle.residue_theory.specs.Residues.{IsPrime}
use Rattle.mixed_model.specs.Models.{IsModel, MixedModel}
use Rattle.ccf_builder.specs.declared.canonical.Parts.{Parts}
use Rattle.model_edits.specs.Commands.{edit_rule, front_rule}
use Rattle.model_edits.specs.Edits.{IsEditOf}
use Rattle.edit_desk.specs.Desks.{IsReply, IsToldOfModel, model_at}
use Rattle.edit_desk.specs.declared.reply.Reply.{Reply}
use Rattle.desk_texts.specs.Said.{IsSaidOf}

-- the model that an edit leaves
pub record HasEdit (p : ℕ) (word : List ℕ) (words : List (List ℕ)) (old : MixedModel) : Type 0 where
  pub new : MixedModel
  pub edit : IsEditOf p word words old new
  pub is_model : IsModel p new

-- a command that is kept as far as its number, with words behind it, leaves a model of each one whose rules it keeps
abbrev pub EachEditHasAModel : Type 0
EachEditHasAModel =
    (p : ℕ) → IsPrime p → (count : ℕ) (word number name : List ℕ) (words : List (List ℕ)) (old : MixedModel) →
    IsModel p old → front_rule count (word ∷ number ∷ name ∷ words) ≡ None →
    edit_rule p word old (name ∷ words) ≡ None → HasEdit p word (name ∷ words) old

-- the rank and the parts that are told of a model
pub record HasTold (p : ℕ) (model : MixedModel) : Type 0 where
  pub rank : ℕ
  pub parts : Parts
  pub told : IsToldOfModel p model rank parts

-- p is a prime above 2
abbrev pub EachModelIsTold : Type 0
EachModelIsTold = (p : ℕ) → IsPrime p → 2 < p → (model : MixedModel) → IsModel p model → HasTold p model

-- each of them is a model
abbrev pub AreModels : ℕ → List MixedModel → Type 0
AreModels p models = (k : ℕ) → IsModel p (model_at models k)

-- the reply to a line, and the models that it leaves, as many as before
pub record HasReply (p : ℕ) (old : List MixedModel) (line : List ℕ) : Type 0 where
  pub new : List MixedModel
  pub reply : Reply
  pub is_reply : IsReply p old line new reply
  pub are_models : AreModels p new
  pub as_many : length new ≡ length old

abbrev pub EachLineHasAReply : Type 0
EachLineHasAReply =
    (p : ℕ) → IsPrime p → 2 < p → (old : List MixedModel) → AreModels p old → (line : List ℕ) → HasReply p old line

abbrev pub EachTextHasAnAnswer : Type 0
EachTextHasAnAnswer = (p : ℕ) → IsPrime p → 2 < p → (input : List ℕ) → (text : List ℕ) × IsSaidOf p input text
