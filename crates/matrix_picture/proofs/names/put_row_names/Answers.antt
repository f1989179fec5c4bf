use Rattle.matrix_picture.specs.Texts.{row_names_text}
use Rattle.matrix_picture.proofs.Pieces.{row_names_left}
use Rattle.text_writer.proofs.Putting.{loop_begins, loop_goes_on}
use Rattle.matrix_picture.proofs.names.put_row_names.Goals as goal

pub loop-top-init : goal.loop-top-init
loop-top-init g c = loop_begins (row_names_text c.args.model.now c.args.layered.now c.args.right 0 c.args.rows.now)

pub loop-top-preserved : goal.loop-top-preserved
loop-top-preserved g c =
    loop_goes_on (row_names_left c.args.model.now c.args.layered.now c.args.right c.args.rows.now c.loop-top.top _
    c.loop-top-test.true) c.loop-top.invariant c.put_row_name.ensures
