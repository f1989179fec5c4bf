use Rattle.text_writer.proofs.Putting.{puts_then}
use Rattle.matrix_picture.proofs.picture.put_style.Goals as goal

pub returns : goal.returns
returns g c = puts_then (puts_then (puts_then (puts_then c.piece.ensures c.piece-2.ensures) c.piece-3.ensures)
    c.piece-4.ensures) c.piece-5.ensures
