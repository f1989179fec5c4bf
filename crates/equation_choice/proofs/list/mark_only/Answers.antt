use Rattle.std.proofs.Common.{arith}
use Rattle.equation_choice.proofs.TellLaws.{only-marked}
use Rattle.equation_choice.proofs.list.mark_only.Goals as goal

pub returns-clause-marks : goal.returns-clause-marks
returns-clause-marks c x =
    let I = c.loop-x.invariant in
    only-marked c.args.number c.loop-x.marks (omega (arith, c.requires, I.count))
    (λ y yl. I.seen y (omega (arith, yl, I.count, c.loop-x-test.false))) x
