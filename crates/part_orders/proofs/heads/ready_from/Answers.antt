use Rattle.std.proofs.Common.{slice_index, arith}
use Rattle.part_orders.proofs.HeadLaws.{all_ready}
use Rattle.part_orders.proofs.heads.ready_from.Goals as goal

pub returns-clause-ready : goal.returns-clause-ready
returns-clause-ready c = all_ready c.args.lower.now c.args.blocks (slice_index c.loop-i.ready.items) c.loop-i.i
    (omega (arith, c.loop-i-test.false, c.loop-i.auto.i-end)) c.loop-i.invariant.ready
