use Rattle.linear_algebra.specs.Products.{identity}
use Rattle.sparse_q.proofs.MadeLaws.{made-next}
use Rattle.sparse_q.proofs.matrix.SparseMat.identity.Goals as goal

pub loop-i-preserved : goal.loop-i-preserved
loop-i-preserved g c =
    made-next c.args.n identity c.loop-i.rows.items c.push.new.self.items c.loop-i.i c.in_ok-unit_row.field-0
    c.loop-i.invariant c.in_ok-push.ensures.items c.in_ok-unit_row.ensures.width c.in_ok-unit_row.ensures.numbers
