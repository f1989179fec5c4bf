use Rattle.text_writer.proofs.Putting.{puts_then}
use Rattle.matrix_picture.proofs.frames.put_outline_of.Goals as goal

pub returns : goal.returns
returns g c = puts_then (puts_then (puts_then (puts_then c.number.ensures c.number-2.ensures)
    c.number-3.ensures) c.number-4.ensures) c.number-5.ensures
