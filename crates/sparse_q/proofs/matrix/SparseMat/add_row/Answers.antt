use Rattle.std.proofs.Common.{sym, subst}
use Rattle.sparse_q.specs.Rows.{Row, IsSum}
use Rattle.sparse_q.proofs.TableLaws.{row-at, row-sum}
use Rattle.sparse_q.proofs.matrix.SparseMat.add_row.Goals as goal

pub returns : goal.returns
returns g c =
    row-sum c.self.inside.width c.self.inside.rows.items c.args.self.now c.self.view_is c.args.i c.requires.target
    g.F.Field.modulus (g.F.Field.number c.args.factor) c.args.t
    c.index.result.now c.index-2.result.now c.swap.new.x c.index.ensures
    (row-at c.self.inside.width c.self.inside.rows.items c.args.self.now c.self.view_is c.args.t c.requires.source
    c.index-2.result.now c.index-2.ensures)
    (subst (λ (r : Row). IsSum g.F.Field.modulus (g.F.Field.number c.args.factor) c.index.result.now.items
    c.index-2.result.now.items r.items) (sym c.swap.ensures.x_after) c.set_sum.ensures.sum)
