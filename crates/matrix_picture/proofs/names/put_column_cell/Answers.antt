use Rattle.text_writer.proofs.Putting.{puts_then}
use Rattle.matrix_picture.proofs.names.put_column_cell.Goals as goal

pub returns : goal.returns
returns g c = puts_then (puts_then (puts_then (puts_then (puts_then (puts_then c.piece.ensures c.number.ensures)
    c.piece-2.ensures) c.number-2.ensures) c.piece-3.ensures) c.put_name_of_column.ensures) c.piece-4.ensures
