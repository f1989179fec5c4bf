use Rattle.std.proofs.Common.{subst, sym}
use Rattle.row_table.specs.PutOffs.{Kept, IsSettled}
use Rattle.row_table.proofs.PutOffEdits.{put-settled}
use Rattle.row_table.proofs.put_off.PutOff.put.Goals as goal

pub returns-clause-put : goal.returns-clause-put
returns-clause-put g c =
    rw (← c.self.view_is) (λ u w ul wl. put-settled g.F.Field.modulus (record {
      rows = c.self.inside.rows;
      columns = c.self.inside.columns;
      stored = c.self.inside.stored;
      factors = c.self.inside.factors;
      pending = c.self.inside.pending;
      count = c.self.inside.count;
    })
    c.put.new.m c.args.i c.args.j _ (subst (λ (d : Kept). IsSettled d c.args.i) (sym c.self.view_is) c.requires.settled)
    c.in_field.ensures c.put.ensures.here c.put.ensures.other_rows c.put.ensures.other_columns u w)
