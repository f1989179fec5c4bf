-- Each model has whole layers.
use Rattle.std.specs.Prelude.{ℕ}
use Rattle.mixed_model.specs.Layers.{Layers}
use Rattle.mixed_model.specs.Models.{IsModel, MixedModel}
use Rattle.mixed_layering.specs.Layers.{AreLayersOf}
use Rattle.answer_texts.specs.WholeLayers.{AreWholeLayers}

-- the layers of a model, with what the type of layers keeps
pub record HasLayers (model : MixedModel) : Type 0 where
  pub layers : Layers
  pub are : AreLayersOf model layers
  pub whole : AreWholeLayers layers

abbrev pub EachModelHasLayers : Type 0
EachModelHasLayers = (p : ℕ) (model : MixedModel) → IsModel p model → HasLayers model
