use Rattle.answer_laws.proofs.Answers.{fitting}
use Rattle.answer_laws.proofs.laws.answers_fit_in_their_room.Goals as goal

pub returns : goal.returns
returns c = fitting
