use Rattle.answer_laws.proofs.Accepting.{short-answer}
use Rattle.answer_laws.proofs.laws.what_is_analysed_is_short.Goals as goal

pub returns : goal.returns
returns c = short-answer
