-- A model has one layer text.
use Rattle.std.specs.Prelude.{◌≡◌}
use Rattle.mixed_layering.specs.Layers.{AreLayersOf}
use Rattle.mixed_model.specs.Layers.{Layers}
use Rattle.mixed_model.specs.Models.{MixedModel}
use Rattle.answer_texts.specs.LayerTexts.{layer_text}
use Rattle.answer_texts.specs.WholeLayers.{AreWholeLayers}

abbrev pub ModelsHaveOneLayerText : Type 0
ModelsHaveOneLayerText =
    (model : MixedModel) (layers others : Layers) → AreLayersOf model layers → AreWholeLayers layers →
    AreLayersOf model others → AreWholeLayers others → layer_text model layers ≡ layer_text model others
