use Rattle.text_writer.proofs.Putting.{puts_is}
use Rattle.matrix_picture.proofs.Pieces.{same_placed}
use Rattle.matrix_picture.proofs.detailed.put_detailed.Goals as goal

pub returns : goal.returns
returns g c = puts_is (same_placed c.args.model.now c.args.layered.now c.args.ccf.now c.columns-columns.ensures
    c.rows-rows.ensures c.frames-frames.ensures) c.put_placed.ensures
