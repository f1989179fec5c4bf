use Rattle.answer_laws.proofs.Answers.{one-layer-text}
use Rattle.answer_laws.proofs.laws.a_model_has_one_layer_text.Goals as goal

pub returns : goal.returns
returns c = one-layer-text
