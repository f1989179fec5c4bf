use Rattle.desk_text_laws.proofs.OneText.{one-answer}
use Rattle.desk_text_laws.proofs.laws.texts_have_one_answer.Goals as goal

pub returns : goal.returns
returns c = one-answer
