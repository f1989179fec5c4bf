use Rattle.matrix_picture.specs.Texts.{column_names_text}
use Rattle.matrix_picture.proofs.Pieces.{column_names_left}
use Rattle.text_writer.proofs.Putting.{loop_begins, loop_goes_on}
use Rattle.matrix_picture.proofs.names.put_column_names.Goals as goal

pub loop-left-init : goal.loop-left-init
loop-left-init g c = loop_begins (column_names_text c.args.model.now c.args.layered.now 0 c.args.columns.now)

pub loop-left-preserved : goal.loop-left-preserved
loop-left-preserved g c =
    loop_goes_on (column_names_left c.args.model.now c.args.layered.now c.args.columns.now c.loop-left.left _
    c.loop-left-test.true) c.loop-left.invariant c.put_column_name.ensures
