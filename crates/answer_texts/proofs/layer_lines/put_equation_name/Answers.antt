use Rattle.text_writer.proofs.Putting.{puts_is}
use Rattle.answer_texts.proofs.LayerFacts.{name_is}
use Rattle.answer_texts.proofs.layer_lines.put_equation_name.Goals as goal

pub returns : goal.returns
returns g c = puts_is (name_is c.args.model.now.equations c.args.equation c.equation_name.result.now c.equation_name.ensures) c.text.ensures
