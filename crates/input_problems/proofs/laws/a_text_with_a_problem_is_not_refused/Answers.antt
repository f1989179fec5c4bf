use Rattle.input_problems.proofs.ProblemLaws.{text-refused_once, text-unrefused}
use Rattle.input_problems.proofs.laws.a_text_with_a_problem_is_not_refused.Goals as goal

pub returns-clause-apart : goal.returns-clause-apart
returns-clause-apart g c = λ kind form text. text-unrefused g.F.Field.modulus kind form text g.F.Field.number

pub returns-clause-one : goal.returns-clause-one
returns-clause-one g c = text-refused_once
