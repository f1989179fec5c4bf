use Rattle.answer_laws.proofs.OneEquation.{in-range}
use Rattle.answer_laws.proofs.no_answers.no_list_leaves_its_range.Goals as goal

pub returns : goal.returns
returns c = in-range
