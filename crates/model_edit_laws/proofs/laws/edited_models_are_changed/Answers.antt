use Rattle.model_edit_laws.proofs.Edits.{changed}
use Rattle.model_edit_laws.proofs.laws.edited_models_are_changed.Goals as goal

pub returns : goal.returns
returns c = changed
