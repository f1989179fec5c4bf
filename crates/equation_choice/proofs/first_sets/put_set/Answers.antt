use Rattle.std.proofs.Common.{arith}
use Rattle.equation_choice.proofs.FirstSets.{put-all}
use Rattle.equation_choice.proofs.first_sets.put_set.Goals as goal

pub returns-clause-first : goal.returns-clause-first
returns-clause-first c e = put-all c.args.set.now c.args.k c.loop-equation.equation-index c.args.first.now c.loop-equation.first
    (omega (arith, c.loop-equation-test.false, c.loop-equation.auto.equation-index-end)) c.loop-equation.invariant e
