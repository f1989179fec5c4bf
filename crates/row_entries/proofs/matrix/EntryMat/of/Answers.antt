use Rattle.std.proofs.Common.{subst, arith}
use Rattle.dense_q.specs.Tables.{IsTableOf, entry}
use Rattle.row_entries.proofs.TableLaws.{added-zero, table-next}
use Rattle.row_entries.proofs.matrix.EntryMat.of.Goals as goal

pub fill_last-requires-clause-zero : goal.fill_last-requires-clause-zero
fill_last-requires-clause-zero g c =
    added-zero c.loop-i.i c.args.q.now.width (entry c.args.q.now) c.loop-i.m c.add_row.new.self c.loop-i.invariant
    c.in_ok-add_row.ensures.ok

pub loop-i-preserved : goal.loop-i-preserved
loop-i-preserved g c =
    table-next c.loop-i.i c.args.q.now.width (entry c.args.q.now) c.loop-i.m c.add_row.new.self c.loop-i.invariant
    c.in_ok-add_row.ensures.ok c.fill_last.new.self c.in_ok-fill_last.ensures

pub returns : goal.returns
returns g c =
    subst (λ k. IsTableOf k c.args.q.now.width (entry c.args.q.now) c.loop-i.m)
    (omega (arith, c.loop-i-test.false, c.loop-i.auto.i-end, c.rows-i-end.ensures.rows)) c.loop-i.invariant
