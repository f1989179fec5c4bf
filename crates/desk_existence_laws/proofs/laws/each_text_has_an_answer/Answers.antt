use Rattle.desk_existence_laws.proofs.TextAnswers.{each-answer}
use Rattle.desk_existence_laws.proofs.laws.each_text_has_an_answer.Goals as goal

pub returns : goal.returns
returns c = each-answer
