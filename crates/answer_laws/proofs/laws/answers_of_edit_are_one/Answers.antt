use Rattle.answer_laws.proofs.OneReplies.{edits-one}
use Rattle.answer_laws.proofs.laws.answers_of_edit_are_one.Goals as goal

pub returns : goal.returns
returns c = edits-one
