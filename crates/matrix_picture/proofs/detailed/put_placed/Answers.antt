use Rattle.text_writer.proofs.Putting.{puts_then}
use Rattle.matrix_picture.proofs.detailed.put_placed.Goals as goal

pub returns : goal.returns
returns g c = puts_then (puts_then (puts_then (puts_then (puts_then (puts_then (puts_then (puts_then (puts_then
    (puts_then (puts_then c.put_opening.ensures c.put_detailed_size.ensures) c.put_style.ensures)
    c.put_frames.ensures) c.put_rows.ensures) c.piece.ensures) c.put_column_names.ensures)
    c.put_row_names.ensures) c.put_legend.ensures) c.put_sizes_below.ensures) c.piece-2.ensures)
    c.put_closing.ensures
