-- What `build` asks of a layered matrix, and what it tells of a form.
use Rattle.std.specs.Prelude.{ℕ}
use Rattle.mixed_matrices.specs.Layerings.{Origins}
use Rattle.mixed_matrices.specs.Models.{MixedMatrix}
use Rattle.mixed_model.specs.Models.{MixedModel, IsModel, mixed_matrix_of}
use Rattle.mixed_model.specs.Layers.{Layers}
use Rattle.mixed_layering.specs.Layers.{AreLayersOf, origins_of}

-- the layered matrix of some model over the field of p elements
pub record IsOfModel (p : ℕ) (layers : Layers) : Type 0 where
  pub model : MixedModel
  pub is : IsModel p model
  pub are : AreLayersOf model layers

-- a statement about each such model of which this is the layered matrix, and its origins
abbrev pub OfEachModel : ℕ → Layers → (MixedMatrix → Origins → Type 0) → Type 0
OfEachModel p layers Of =
    (model : MixedModel) → IsModel p model → (are : AreLayersOf model layers) →
    Of (mixed_matrix_of model) (origins_of layers are.split)
