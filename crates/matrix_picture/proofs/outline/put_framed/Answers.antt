use Rattle.text_writer.proofs.Putting.{puts_then}
use Rattle.matrix_picture.proofs.outline.put_framed.Goals as goal

pub returns : goal.returns
returns g c = puts_then (puts_then (puts_then (puts_then (puts_then (puts_then (puts_then c.put_opening.ensures
    c.put_outline_size.ensures) c.put_style.ensures) c.put_column_cells.ensures) c.put_frames.ensures)
    c.put_rows.ensures) c.put_sizes_below.ensures) c.put_closing.ensures
