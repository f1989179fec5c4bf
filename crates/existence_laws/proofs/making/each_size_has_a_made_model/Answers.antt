use Rattle.existence_laws.proofs.MadeModels.{has-made}
use Rattle.existence_laws.proofs.making.each_size_has_a_made_model.Goals as goal

pub returns : goal.returns
returns c = has-made
