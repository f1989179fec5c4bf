use Rattle.std.proofs.Common.{arith}
use Rattle.dense_q.specs.Tables.{entry}
use Rattle.sparse_q.proofs.MadeLaws.{made-next, made-all, past-row}
use Rattle.sparse_q.proofs.matrix.SparseMat.of.Goals as goal

pub loop-i-preserved : goal.loop-i-preserved
loop-i-preserved g c =
    made-next c.args.q.now.width (entry c.args.q.now) c.loop-i.rows.items c.push.new.self.items c.loop-i.i
    c.in_ok-row_of.field-0 c.loop-i.invariant c.in_ok-push.ensures.items c.in_ok-row_of.ensures.width
    c.in_ok-row_of.ensures.numbers

pub returns-clause-numbers : goal.returns-clause-numbers
returns-clause-numbers g c =
    made-all c.args.q.now.width (entry c.args.q.now) c.loop-i.rows.items c.loop-i.i c.loop-i.invariant
    (λ i j le. past-row c.args.q.now i j (omega (arith, c.rows-i-end.ensures.rows, c.loop-i-test.false)))
