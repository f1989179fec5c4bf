use Rattle.std.proofs.Common.{◌∙◌, ap, cond, eqb}
use Rattle.sparse_q.specs.Tables.{number_in}
use Rattle.sparse_q.proofs.TableLaws.{row-at, row-set}
use Rattle.sparse_q.proofs.matrix.SparseMat.put.Goals as goal

pub returns : goal.returns
returns g c =
    row-set c.self.inside.width c.self.inside.rows.items c.args.self.now c.self.view_is c.args.i c.requires.row
    c.put.new.self (λ k. cond (eqb k c.args.j) (g.F.Field.number c.args.value) (number_in c.args.self.now c.args.i k))
    (λ k. c.put.ensures.numbers k ∙ ap (λ n. cond (eqb k c.args.j) (g.F.Field.number c.args.value) n)
    (row-at c.self.inside.width c.self.inside.rows.items c.args.self.now c.self.view_is c.args.i c.requires.row
    c.index_mut.result.now c.index_mut.ensures.value k))
