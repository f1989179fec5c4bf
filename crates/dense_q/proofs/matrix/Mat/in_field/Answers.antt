use Rattle.std.proofs.Common.{arith, subst}
use Rattle.dense_q.specs.Tables.{AreResidues}
use Rattle.dense_q.proofs.TableLaws.{residues-told}
use Rattle.dense_q.proofs.matrix.Mat.in_field.Goals as goal

pub returns : goal.returns
returns g c =
    subst (λ t. AreResidues g.F.Field.modulus t.rows) c.self.view_is
    (residues-told (λ row. row.items) g.F.Field.number g.F.Field.modulus c.self.inside.rows.items
    c.deref-row-items.result.now c.loop-row.row-index c.deref-row-items.ensures.value (omega arith)
    c.loop-row.invariant)
