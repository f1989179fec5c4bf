use Rattle.matrix_picture.specs.Texts.{rows_text}
use Rattle.matrix_picture.proofs.Pieces.{rows_left}
use Rattle.text_writer.proofs.Putting.{loop_begins, loop_goes_on}
use Rattle.matrix_picture.proofs.entries.put_rows.Goals as goal

pub loop-top-init : goal.loop-top-init
loop-top-init g c = loop_begins (rows_text c.args.model.now c.args.layered.now c.args.ccf.now c.args.columns.now 0 c.args.rows.now)

pub loop-top-preserved : goal.loop-top-preserved
loop-top-preserved g c =
    loop_goes_on (rows_left c.args.model.now c.args.layered.now c.args.ccf.now c.args.columns.now c.args.rows.now c.loop-top.top _
    c.loop-top-test.true) c.loop-top.invariant c.put_row.ensures
