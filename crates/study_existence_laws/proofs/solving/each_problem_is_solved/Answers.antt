use Rattle.study_existence_laws.proofs.SolvedProblems.{has-solving}
use Rattle.study_existence_laws.proofs.solving.each_problem_is_solved.Goals as goal

pub returns : goal.returns
returns c = has-solving
