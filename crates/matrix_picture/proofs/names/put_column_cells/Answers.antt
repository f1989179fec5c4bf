use Rattle.matrix_picture.specs.Texts.{column_cells_text}
use Rattle.matrix_picture.proofs.Pieces.{column_cells_left}
use Rattle.text_writer.proofs.Putting.{loop_begins, loop_goes_on}
use Rattle.matrix_picture.proofs.names.put_column_cells.Goals as goal

pub loop-left-init : goal.loop-left-init
loop-left-init g c = loop_begins (column_cells_text c.args.model.now c.args.layered.now c.args.letter 0 c.args.columns.now)

pub loop-left-preserved : goal.loop-left-preserved
loop-left-preserved g c =
    loop_goes_on (column_cells_left c.args.model.now c.args.layered.now c.args.letter c.args.columns.now c.loop-left.left _
    c.loop-left-test.true) c.loop-left.invariant c.put_column_cell.ensures
