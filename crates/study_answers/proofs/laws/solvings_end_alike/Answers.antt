use Rattle.study_answers.proofs.OneEnd.{ends-alike}
use Rattle.study_answers.proofs.laws.solvings_end_alike.Goals as goal

pub returns : goal.returns
returns c = ends-alike
