use Rattle.repair_texts.specs.RepairTexts.{drop_lines}
use Rattle.repair_texts.proofs.Pieces.{dropped-left}
use Rattle.text_writer.proofs.Putting.{loop_begins, loop_goes_on}
use Rattle.repair_texts.proofs.repair_lines.put_dropped.Goals as goal

pub loop-equation-init : goal.loop-equation-init
loop-equation-init g c = loop_begins (drop_lines c.args.model.now.equations c.args.kept.now 0 c.args.costs.now)

pub loop-equation-preserved : goal.loop-equation-preserved
loop-equation-preserved g c = loop_goes_on (dropped-left c.args.model.now.equations c.args.kept.now c.args.costs.now
    c.loop-equation.equation 0 c.loop-equation-test.true) c.loop-equation.invariant c.put_unless_kept.ensures
