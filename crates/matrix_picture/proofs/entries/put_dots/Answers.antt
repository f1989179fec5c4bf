use Rattle.matrix_picture.specs.Texts.{dots_text}
use Rattle.matrix_picture.proofs.Pieces.{dots_left}
use Rattle.text_writer.proofs.Putting.{loop_begins, loop_goes_on}
use Rattle.matrix_picture.proofs.entries.put_dots.Goals as goal

pub loop-left-init : goal.loop-left-init
loop-left-init g c = loop_begins (dots_text c.args.ccf.now c.args.row c.args.top 0 c.args.columns.now)

pub loop-left-preserved : goal.loop-left-preserved
loop-left-preserved g c =
    loop_goes_on (dots_left c.args.ccf.now c.args.row c.args.top c.args.columns.now c.loop-left.left _
    c.loop-left-test.true) c.loop-left.invariant c.put_entry.ensures
