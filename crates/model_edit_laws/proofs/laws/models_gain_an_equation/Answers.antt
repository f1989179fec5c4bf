use Rattle.model_edit_laws.proofs.Edits.{added}
use Rattle.model_edit_laws.proofs.laws.models_gain_an_equation.Goals as goal

pub returns : goal.returns
returns c = added
