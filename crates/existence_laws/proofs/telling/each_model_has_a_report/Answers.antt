use Rattle.existence_laws.proofs.Reporting.{has-report}
use Rattle.existence_laws.proofs.telling.each_model_has_a_report.Goals as goal

pub returns : goal.returns
returns c = has-report
