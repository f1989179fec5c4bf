use Rattle.matrix_reader.proofs.ModelLaws.{text_gives_one}
use Rattle.matrix_reader.proofs.laws.a_text_gives_one_model.Goals as goal

pub returns : goal.returns
returns c = text_gives_one
