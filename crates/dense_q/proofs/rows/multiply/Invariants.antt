use Rattle.std.proofs.Common.{◌≡◌, map}
use Rattle.dense_q.specs.Rows.{multiple}
use Rattle.residue_field.proofs.RowLaws.{upto}
use Rattle.dense_q.proofs.rows.multiply.Given as goal

abbrev pub invariant-loop-x : goal.invariant-loop-x
invariant-loop-x g l =
    let old = map g.F.Field.number l.fn.row in
    map g.F.Field.number l.row ≡ upto l.x-index (multiple g.F.Field.modulus (g.F.Field.number l.factor) old) old
