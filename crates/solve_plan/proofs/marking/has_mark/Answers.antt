use Rattle.solve_plan.proofs.MarkSets.{clear-all, clear-next}
use Rattle.solve_plan.proofs.marking.has_mark.Goals as goal

pub loop-mark-preserved : goal.loop-mark-preserved
loop-mark-preserved c = clear-next c.args.marks.now c.loop-mark.mark-index c.loop-mark.any c.loop-mark.invariant

pub returns : goal.returns
returns c = clear-all c.args.marks.now c.loop-mark.mark-index c.loop-mark.any c.loop-mark-test.false c.loop-mark.invariant
