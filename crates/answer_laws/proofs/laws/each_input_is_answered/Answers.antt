use Rattle.answer_laws.proofs.EachInput.{each-answered}
use Rattle.answer_laws.proofs.laws.each_input_is_answered.Goals as goal

pub returns : goal.returns
returns c = each-answered
