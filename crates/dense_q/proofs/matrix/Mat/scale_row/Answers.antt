use Rattle.std.proofs.Common.{◌<◌, ap, length, arith}
use Rattle.std.proofs.lemmas.Grind.{common_steps}
use Rattle.dense_q.specs.Tables.{height}
use Rattle.dense_q.proofs.TableLaws.{numbers-multiple, numbers-matrix, row_scaled}
use Rattle.dense_q.proofs.matrix.Mat.scale_row.Goals as goal

pub returns-clause-row : goal.returns-clause-row
returns-clause-row g c =
    let less : c.args.i < length c.self.inside.rows.items = grind (arith, common_steps, ap height c.self.view_is) in
    rw (← c.self.view_is) (ap (λ rs. record { width = c.self.inside.width; rows = rs })
    (numbers-multiple g.F.Field.number g.F.Field.modulus (g.F.Field.number c.args.c) c.self.inside.rows.items c.args.i
    c.index_mut.result.now c.deref_mut.result.now c.multiply.new.row less c.index_mut.ensures.value
    c.deref_mut.ensures.value c.multiply.auto.row c.multiply.ensures))

pub returns-clause-scaled : goal.returns-clause-scaled
returns-clause-scaled g c =
    row_scaled g.F.Field.modulus (g.F.Field.number c.args.c) c.args.self.now c.args.i
    (rw (← c.self.view_is) (numbers-matrix g.F.Field.number c.self.inside.width c.self.inside.rows.items
    c.self.invariant)) c.requires _ (returns-clause-row g c)
