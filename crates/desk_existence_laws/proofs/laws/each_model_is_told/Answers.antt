use Rattle.desk_existence_laws.proofs.ToldModels.{each-told}
use Rattle.desk_existence_laws.proofs.laws.each_model_is_told.Goals as goal

pub returns : goal.returns
returns c = each-told
