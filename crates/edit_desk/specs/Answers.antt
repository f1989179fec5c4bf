-- What the models of a desk are after one of them was edited.
use Rattle.std.specs.Prelude.{ℕ, ◌≡◌, List, map, slice_set}
use Rattle.mixed_model.specs.Models.{MixedModel}
use Rattle.edit_desk.specs.Desks.{IsEditedTo, model_at}
use Rattle.edit_desk.specs.Held.{HeldModel}
use Rattle.edit_desk.specs.declared.reply.Reply.{Reply}
use Rattle.edit_desk.specs.declared.reply.Reply.TheVariants.{Changed}

-- the models that are held
abbrev pub models_of : {A : Type 0} → List (HeldModel A) → List MixedModel
models_of {A} held = map (λ (h : HeldModel A). h.model) held

-- model k was edited so, and its rank is the reply
pub record HasChangedAt (p : ℕ) (word : List ℕ) (words : List (List ℕ)) (old : List MixedModel) (k : ℕ)
    (new : List MixedModel) (reply : Reply) : Type 0 where
  pub rank : ℕ
  pub model : MixedModel
  pub reply_is : reply ≡ Changed rank
  pub edited : IsEditedTo p word words (model_at old k) model rank
  pub new_is : new ≡ slice_set old k model
