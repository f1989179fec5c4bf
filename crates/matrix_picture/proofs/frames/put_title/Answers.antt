use Rattle.std.proofs.Common.{ap}
use Rattle.text_writer.specs.Numbers.{spaced}
use Rattle.text_writer.proofs.Putting.{puts_is, puts_then}
use Rattle.matrix_picture.proofs.frames.put_title.Goals as goal

pub returns : goal.returns
returns g c = puts_then (puts_then (puts_then (puts_then (puts_then (puts_then c.piece.ensures c.put_part_name.ensures) c.piece-2.ensures)
    (puts_is (ap spaced c.frame_rows.ensures) c.number.ensures)) c.piece-3.ensures)
    (puts_is (ap spaced c.frame_columns.ensures) c.number-2.ensures)) c.piece-4.ensures
