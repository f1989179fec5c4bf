use Rattle.study_existence_laws.proofs.Clashing.{has-conflicts}
use Rattle.study_existence_laws.proofs.conflicts.each_model_has_conflicts.Goals as goal

pub returns : goal.returns
returns c = has-conflicts
