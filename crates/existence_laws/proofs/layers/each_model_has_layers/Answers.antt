use Rattle.existence_laws.proofs.Layering.{has-layers}
use Rattle.existence_laws.proofs.layers.each_model_has_layers.Goals as goal

pub returns : goal.returns
returns c = has-layers
