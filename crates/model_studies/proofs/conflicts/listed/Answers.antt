use Rattle.std.proofs.Common.{arith}
use Rattle.model_studies.proofs.Listed.{listed-all, listed-on}
use Rattle.model_studies.proofs.conflicts.listed.Goals as goal

pub loop-equation-preserved : goal.loop-equation-preserved
loop-equation-preserved c =
    listed-on c.args.equations c.args.sets.now c.loop-equation.equation c.loop-equation.conflicts.items c.add_conflict.new.conflicts.items
    c.loop-equation-test.true c.in_ok-add_conflict.ensures c.loop-equation.invariant

pub returns : goal.returns
returns c p M rows are = listed-all c.args.equations c.args.sets.now c.loop-equation.equation c.loop-equation.conflicts.items
    (omega (arith, c.loop-equation-test.false, c.loop-equation.auto.equation-end)) c.loop-equation.invariant p M rows are
