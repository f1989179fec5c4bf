use Rattle.made_models.proofs.MadeLaws.{made-one}
use Rattle.made_models.proofs.laws.there_is_one_made_model.Goals as goal

pub returns : goal.returns
returns c = made-one
