use Rattle.problem_heads.proofs.ProblemsOnce.{problem-had, problem-once}
use Rattle.problem_heads.proofs.laws.a_head_says_one_problem.Goals as goal

pub returns-clause-had : goal.returns-clause-had
returns-clause-had g c = λ form numbers model. problem-had numbers model g.F.Field.number form

pub returns-clause-one : goal.returns-clause-one
returns-clause-one g c = λ form numbers model. problem-once numbers model g.F.Field.number form
