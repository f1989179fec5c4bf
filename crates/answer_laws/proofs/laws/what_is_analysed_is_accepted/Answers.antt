use Rattle.answer_laws.proofs.Accepting.{accepting}
use Rattle.answer_laws.proofs.laws.what_is_analysed_is_accepted.Goals as goal

pub returns : goal.returns
returns c = accepting
