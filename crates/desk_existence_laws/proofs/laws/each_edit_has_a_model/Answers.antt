use Rattle.desk_existence_laws.proofs.EditedModels.{each-edit}
use Rattle.desk_existence_laws.proofs.laws.each_edit_has_a_model.Goals as goal

pub returns : goal.returns
returns c = each-edit
