use Rattle.input_problems.proofs.ProblemLaws.{text-answered}
use Rattle.input_problems.proofs.laws.each_text_gives_a_problem_or_is_refused.Goals as goal

pub returns : goal.returns
returns c = λ p prime odd kind form text. text-answered p kind form text prime odd
