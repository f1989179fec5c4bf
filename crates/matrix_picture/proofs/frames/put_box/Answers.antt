use Rattle.text_writer.proofs.Putting.{puts_is, puts_then}
use Rattle.matrix_picture.proofs.frames.put_box.Goals as goal

pub returns : goal.returns
returns g c = puts_then (puts_then (puts_then (puts_then
    (puts_is c.box_head.ensures c.piece.ensures) c.put_outline_of.ensures) c.piece-2.ensures) c.put_title.ensures) c.piece-3.ensures
