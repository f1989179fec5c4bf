use Rattle.std.proofs.Common.{ap}
use Rattle.study_texts.specs.ConflictTexts.{conflict_line, conflict_lines}
use Rattle.study_texts.proofs.Pieces.{conflicts-left}
use Rattle.text_writer.proofs.Putting.{loop_begins, loop_goes_on, puts_is}
use Rattle.study_texts.proofs.conflict_lines.put_conflict_lines.Goals as goal

pub loop-conflict-init : goal.loop-conflict-init
loop-conflict-init g c = loop_begins (conflict_lines c.args.model.now.equations c.args.conflicts.now)

pub loop-conflict-preserved : goal.loop-conflict-preserved
loop-conflict-preserved g c = loop_goes_on (conflicts-left c.args.model.now.equations c.args.conflicts.now
    c.loop-conflict.conflict-index c.conflict-item.result c.loop-conflict-test.true) c.loop-conflict.invariant
    (puts_is (ap (conflict_line c.args.model.now.equations) c.conflict-item.is) c.put_conflict.ensures)
