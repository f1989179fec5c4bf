use Rattle.existence_laws.proofs.FormVerdicts.{has-verdict}
use Rattle.existence_laws.proofs.verdicts.each_form_has_a_verdict.Goals as goal

pub returns : goal.returns
returns c = has-verdict
