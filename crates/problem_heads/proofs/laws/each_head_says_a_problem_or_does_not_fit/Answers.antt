use Rattle.problem_heads.proofs.ProblemsOnce.{misfit-once, problem-answered, problem-unrefused}
use Rattle.problem_heads.proofs.laws.each_head_says_a_problem_or_does_not_fit.Goals as goal

pub returns-clause-each : goal.returns-clause-each
returns-clause-each c = λ form numbers model. problem-answered numbers model form

pub returns-clause-apart : goal.returns-clause-apart
returns-clause-apart c = λ form numbers model. problem-unrefused numbers model form

pub returns-clause-one : goal.returns-clause-one
returns-clause-one c = λ form numbers model. misfit-once numbers model form
