use Rattle.std.proofs.Common.{arith, subst, sym}
use Rattle.row_table.specs.PutOffs.{Kept, HasSameShape, IsActuallySame, IsSettled}
use Rattle.row_table.proofs.PutOffLaws.{flushed-same}
use Rattle.row_table.proofs.put_off.PutOff.flush.Goals as goal

pub returns-clause-same : goal.returns-clause-same
returns-clause-same g c =
    let p = g.F.Field.modulus in
    let old : Kept = c.args.self.now in
    let mid : Kept = record {
      rows = c.self-2.inside.rows;
      columns = c.self-2.inside.columns;
      stored = c.self-2.inside.stored;
      factors = c.self-2.inside.factors;
      pending =
          c.self-2.inside.pending;
      count = c.self-2.inside.count;
    } in
    let shape : HasSameShape mid old = subst (λ (d : Kept). HasSameShape d old) (sym c.self-2.view_is)
    c.loop-i.invariant.shape in
    flushed-same p old mid shape
    (subst (λ (d : Kept). IsActuallySame p d old) (sym c.self-2.view_is) c.loop-i.invariant.same)
    (λ u ul. subst (λ (d : Kept). IsSettled d u) (sym c.self-2.view_is)
    (c.loop-i.invariant.settled u (omega (
      arith,
      shape.rows_same,
      c.rows-i-end.ensures.rows,
      c.loop-i-test.false,
    ))))
