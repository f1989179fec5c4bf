use Rattle.study_existence_laws.proofs.Repaired.{has-repair}
use Rattle.study_existence_laws.proofs.repairs.each_model_has_a_repair.Goals as goal

pub returns : goal.returns
returns c = has-repair
