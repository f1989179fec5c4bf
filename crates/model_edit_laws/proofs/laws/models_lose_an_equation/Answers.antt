use Rattle.model_edit_laws.proofs.Edits.{removed}
use Rattle.model_edit_laws.proofs.laws.models_lose_an_equation.Goals as goal

pub returns : goal.returns
returns c = removed
