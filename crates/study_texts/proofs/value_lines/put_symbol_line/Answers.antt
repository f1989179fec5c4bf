use Rattle.std.proofs.Common.{ap, ◌∙◌}
use Rattle.text_writer.specs.Numbers.{spaced}
use Rattle.text_writer.proofs.Putting.{puts_is, puts_then}
use Rattle.study_texts.proofs.value_lines.put_symbol_line.Goals as goal

pub returns : goal.returns
returns g c = puts_then (puts_then (puts_then (puts_then (puts_then c.piece.ensures c.put_equation_name.ensures) c.piece-2.ensures)
    c.put_unknown_name.ensures) (puts_is (ap spaced (c.from.ensures ∙ c.value.ensures.number)) c.number.ensures)) c.piece-3.ensures
