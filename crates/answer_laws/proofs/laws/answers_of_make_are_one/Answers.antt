use Rattle.answer_laws.proofs.OneMakeText.{one-make-text}
use Rattle.answer_laws.proofs.laws.answers_of_make_are_one.Goals as goal

pub returns : goal.returns
returns c = one-make-text
