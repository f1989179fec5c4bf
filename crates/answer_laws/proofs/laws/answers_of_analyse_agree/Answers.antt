use Rattle.answer_laws.proofs.Answers.{agreeing}
use Rattle.answer_laws.proofs.laws.answers_of_analyse_agree.Goals as goal

pub returns : goal.returns
returns c = agreeing
