use Rattle.row_transform.proofs.EntryEdits.{raised-first, raised-next, raised-all}
use Rattle.std.proofs.Common.{arith}
use Rattle.row_transform.proofs.entries.Entries.insert_column.Goals as goal

pub loop-col-init : goal.loop-col-init
loop-col-init c = raised-first c.args.columns c.args.self.now.bits c.args.at c.requires.at

pub loop-col-preserved : goal.loop-col-preserved
loop-col-preserved c = raised-next c.args.columns c.args.self.now.bits c.loop-col.self.bits c.args.at c.loop-col.col
    c.loop-col.invariant c.copy.new.self.bits (omega (arith, c.loop-col-test.true)) c.copy.ensures

pub returns : goal.returns
returns c = raised-all c.args.columns c.args.self.now.bits c.loop-col.self.bits c.args.at c.loop-col.col
    c.loop-col.invariant c.clear_row.new.self (omega (arith, c.loop-col-test.false)) c.clear_row.ensures.cleared
    c.clear_row.ensures.rows c.clear_row.ensures.size
