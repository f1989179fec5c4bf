use Rattle.text_writer.proofs.Putting.{puts_is, puts_then}
use Rattle.matrix_picture.proofs.detailed.put_legend_line.Goals as goal

pub returns : goal.returns
returns g c = puts_then (puts_then (puts_then (puts_then (puts_then (puts_then
    (puts_is c.row_head.ensures c.piece.ensures) c.put_dot.ensures) c.piece-2.ensures) c.put_place.ensures) c.piece-3.ensures)
    c.piece-4.ensures) c.piece-5.ensures
