use Rattle.text_writer.proofs.Putting.{puts_is, puts_then}
use Rattle.matrix_picture.proofs.entries.put_row.Goals as goal

pub returns : goal.returns
returns g c = puts_then (puts_then (puts_then (puts_then
    (puts_is c.row_head.ensures c.piece.ensures) c.put_dots.ensures) c.piece-2.ensures) c.put_name_of_row.ensures) c.piece-3.ensures
