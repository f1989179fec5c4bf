use Rattle.answer_laws.proofs.OneReplies.{edit-done}
use Rattle.answer_laws.proofs.laws.edit_is_done.Goals as goal

pub returns : goal.returns
returns c = edit-done
