use Rattle.answer_laws.proofs.Answers.{one-answer}
use Rattle.answer_laws.proofs.laws.answers_of_layer_are_one.Goals as goal

pub returns : goal.returns
returns c = one-answer
