use Rattle.text_writer.proofs.Putting.{puts_is}
use Rattle.answer_texts.proofs.LayerFacts.{name_is}
use Rattle.answer_texts.proofs.layer_lines.put_unknown_name.Goals as goal

pub returns : goal.returns
returns g c = puts_is (name_is c.args.model.now.unknowns c.args.unknown c.unknown_name.result.now c.unknown_name.ensures) c.text.ensures
