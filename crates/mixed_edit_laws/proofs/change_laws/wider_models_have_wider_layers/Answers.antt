use Rattle.mixed_edit_laws.proofs.WiderLayers.{wider-layers}
use Rattle.mixed_edit_laws.proofs.change_laws.wider_models_have_wider_layers.Goals as goal

pub returns : goal.returns
returns c = wider-layers
