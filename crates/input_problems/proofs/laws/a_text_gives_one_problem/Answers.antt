use Rattle.input_problems.proofs.ProblemLaws.{model-once, text-problem_once}
use Rattle.input_problems.proofs.laws.a_text_gives_one_problem.Goals as goal

pub returns-clause-model : goal.returns-clause-model
returns-clause-model g c = λ kind form text. model-once g.F.Field.modulus kind form text g.F.Field.number

pub returns-clause-problem : goal.returns-clause-problem
returns-clause-problem g c = λ kind form text. text-problem_once g.F.Field.modulus kind form text g.F.Field.number
