use Rattle.matrix_reader.proofs.EachText.{text_answered}
use Rattle.matrix_reader.proofs.laws.each_text_gives_a_model_or_is_refused.Goals as goal

pub returns : goal.returns
returns c = text_answered
