use Rattle.study_existence_laws.proofs.Valued.{has-values}
use Rattle.study_existence_laws.proofs.values.each_model_has_values.Goals as goal

pub returns : goal.returns
returns c = has-values
