use Rattle.answer_laws.proofs.OneReport.{reports-one}
use Rattle.answer_laws.proofs.laws.answers_of_report_are_one.Goals as goal

pub returns : goal.returns
returns c = reports-one
