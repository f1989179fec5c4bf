use Rattle.text_writer.proofs.Putting.{puts_then}
use Rattle.answer_texts.proofs.report_lines.put_sizes.Goals as goal

pub returns : goal.returns
returns g c =
    puts_then (puts_then (puts_then (puts_then (puts_then
    (puts_then c.piece.ensures c.number.ensures) c.piece-2.ensures) c.number-2.ensures) c.piece-3.ensures) c.number-3.ensures) c.piece-4.ensures
