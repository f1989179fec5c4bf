use Rattle.text_writer.proofs.Putting.{puts_then}
use Rattle.matrix_picture.proofs.sizes.put_sizes_below.Goals as goal

pub returns : goal.returns
returns g c = puts_then (puts_then (puts_then (puts_then c.piece.ensures c.put_place.ensures) c.piece-2.ensures)
    c.put_sizes.ensures) c.piece-3.ensures
