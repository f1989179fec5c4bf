use Rattle.std.proofs.Common.{subst, sym}
use Rattle.row_table.specs.PutOffs.{Kept, HasSameShape, IsActuallySame, IsSettled}
use Rattle.row_table.proofs.PutOffLaws.{scaled-actual}
use Rattle.row_table.proofs.put_off.PutOff.scale_row.Goals as goal

pub returns-clause-scaled : goal.returns-clause-scaled
returns-clause-scaled g c =
    let p = g.F.Field.modulus in
    let old : Kept = c.args.self.now in
    scaled-actual p old (record {
      rows = c.self.inside.rows;
      columns = c.self.inside.columns;
      stored = c.self.inside.stored;
      factors = c.self.inside.factors;
      pending =
          c.self.inside.pending;
      count = c.self.inside.count;
    }) c.scale_row.new.self c.args.i _ c.requires.row c.self.invariant
    (subst (λ (d : Kept). HasSameShape d old) (sym c.self.view_is) c.settle.ensures.shape)
    (subst (λ (d : Kept). IsActuallySame p d old) (sym c.self.view_is) c.settle.ensures.same)
    (subst (λ (d : Kept). IsSettled d c.args.i) (sym c.self.view_is) c.settle.ensures.settled)
    c.scale_row.ensures.scaled
