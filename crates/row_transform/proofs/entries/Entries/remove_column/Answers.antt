use Rattle.row_transform.proofs.EntryEdits.{lowered-first, lowered-next, lowered-all}
use Rattle.std.proofs.Common.{arith}
use Rattle.row_transform.proofs.entries.Entries.remove_column.Goals as goal

pub loop-col-init : goal.loop-col-init
loop-col-init c = lowered-first c.args.self.now.bits c.args.at

pub loop-col-preserved : goal.loop-col-preserved
loop-col-preserved c = lowered-next c.args.self.now.bits c.loop-col.self.bits c.args.at c.loop-col.col
    c.loop-col.invariant c.copy.new.self.bits c.copy.ensures

pub returns : goal.returns
returns c = lowered-all c.args.self.now.bits c.loop-col.self.bits c.args.at c.loop-col.col
    c.loop-col.invariant c.args.columns (omega (arith, c.loop-col-test.false))
