use Rattle.answer_laws.proofs.OneStatus.{one-status}
use Rattle.answer_laws.proofs.laws.answers_have_one_status.Goals as goal

pub returns : goal.returns
returns c = one-status
