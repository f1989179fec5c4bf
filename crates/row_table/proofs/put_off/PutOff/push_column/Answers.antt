use Rattle.row_table.proofs.PutOffEdits.{column-pushed}
use Rattle.row_table.proofs.put_off.PutOff.push_column.Goals as goal

pub returns : goal.returns
returns g c =
    rw (← c.self.view_is) (column-pushed g.F.Field.modulus (record {
      rows = c.self.inside.rows;
      columns = c.self.inside.columns;
      stored = c.self.inside.stored;
      factors = c.self.inside.factors;
      pending = c.self.inside.pending;
      count = c.self.inside.count;
    })
    c.clear_column.new.m c.clear_column-2.new.m c.self.invariant c.clear_column.ensures.size.height_same
    c.clear_column.ensures.size.width_same c.clear_column.ensures.cleared c.clear_column.ensures.others
    c.clear_column-2.ensures.cleared c.clear_column-2.ensures.others)
