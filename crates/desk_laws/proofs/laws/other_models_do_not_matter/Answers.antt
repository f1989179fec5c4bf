use Rattle.desk_laws.proofs.OtherModels.{other-models}
use Rattle.desk_laws.proofs.laws.other_models_do_not_matter.Goals as goal

pub returns : goal.returns
returns c = other-models
