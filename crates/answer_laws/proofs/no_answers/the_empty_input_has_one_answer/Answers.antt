use Rattle.answer_laws.proofs.EmptyInput.{empty-answer}
use Rattle.answer_laws.proofs.no_answers.the_empty_input_has_one_answer.Goals as goal

pub returns : goal.returns
returns c = empty-answer
