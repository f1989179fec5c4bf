use Rattle.std.proofs.Common.{◌<◌, sym, subst}
use Rattle.row_table.specs.PutOffs.{Kept}
use Rattle.row_table.proofs.PutOffEdits.{column-removed}
use Rattle.row_table.proofs.put_off.PutOff.remove_column.Goals as goal

pub returns : goal.returns
returns g c =
    rw (← c.self.view_is) (column-removed g.F.Field.modulus (record {
      rows = c.self.inside.rows;
      columns = c.self.inside.columns;
      stored = c.self.inside.stored;
      factors = c.self.inside.factors;
      pending = c.self.inside.pending;
      count = c.self.inside.count;
    })
    c.copy_column.new.m c.copy_column-2.new.m c.args.j
    (subst (λ (d : Kept). c.args.j < d.columns) (sym c.self.view_is) c.requires) c.self.invariant
    c.copy_column.ensures.size.height_same c.copy_column.ensures.size.width_same c.copy_column.ensures.here
    c.copy_column.ensures.others c.copy_column-2.ensures.here c.copy_column-2.ensures.others)
