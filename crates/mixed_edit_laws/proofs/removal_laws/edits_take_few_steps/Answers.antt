use Rattle.mixed_edit_laws.proofs.FewSteps.{few-steps}
use Rattle.mixed_edit_laws.proofs.removal_laws.edits_take_few_steps.Goals as goal

pub returns : goal.returns
returns c = few-steps
