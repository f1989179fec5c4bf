use Rattle.std.proofs.Common.{arith, map, ◌∙◌}
use Rattle.std.proofs.lemmas.List.{length-map}
use Rattle.dense_q.specs.Rows.{multiple}
use Rattle.residue_field.proofs.RowLaws.{upto-all}
use Rattle.dense_q.proofs.RowLaws.{multiplied_at, multiple-length}
use Rattle.dense_q.proofs.rows.multiply.Goals as goal

pub loop-x-preserved : goal.loop-x-preserved
loop-x-preserved g c =
    multiplied_at g.F.Field.number g.F.Field.modulus (g.F.Field.number c.args.factor) c.args.row.now c.loop-x.row
    c.loop-x.x-index c.x-item.result c.mul.result c.loop-x.auto.row (omega arith) c.loop-x.invariant c.x-item.is
    (rw (← c.x-item.is) at c.mul.ensures)

pub returns : goal.returns
returns g c =
    let old = map g.F.Field.number c.args.row.now in
    c.loop-x.invariant
    ∙ upto-all c.loop-x.x-index (multiple g.F.Field.modulus (g.F.Field.number c.args.factor) old) old
    (multiple-length g.F.Field.modulus (g.F.Field.number c.args.factor) old)
    (omega (arith, length-map c.args.row.now g.F.Field.number))
