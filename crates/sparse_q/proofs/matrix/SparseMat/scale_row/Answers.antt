use Rattle.sparse_q.proofs.TableLaws.{row-multiple}
use Rattle.sparse_q.proofs.matrix.SparseMat.scale_row.Goals as goal

pub returns : goal.returns
returns g c =
    row-multiple c.self.inside.width c.self.inside.rows.items c.args.self.now c.self.view_is c.args.i c.requires.row
    g.F.Field.modulus (g.F.Field.number c.args.factor) c.index_mut.result.now c.scale.new.self
    c.index_mut.ensures.value c.scale.ensures.multiple
