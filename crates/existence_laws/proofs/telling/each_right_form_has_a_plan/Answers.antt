use Rattle.existence_laws.proofs.Planning.{has-plan}
use Rattle.existence_laws.proofs.telling.each_right_form_has_a_plan.Goals as goal

pub returns : goal.returns
returns c = has-plan
