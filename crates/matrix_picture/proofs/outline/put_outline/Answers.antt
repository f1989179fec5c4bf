use Rattle.text_writer.proofs.Putting.{puts_is}
use Rattle.matrix_picture.proofs.Pieces.{same_framed}
use Rattle.matrix_picture.proofs.outline.put_outline.Goals as goal

pub returns : goal.returns
returns g c = puts_is (same_framed c.args.model.now c.args.layered.now c.args.ccf.now c.columns-columns.ensures
    c.rows-rows.ensures c.frames-frames.ensures) c.put_framed.ensures
