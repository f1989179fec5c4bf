use Rattle.row_table.proofs.PutOffEdits.{row-pushed}
use Rattle.row_table.proofs.put_off.PutOff.push_row.Goals as goal

pub returns-clause-rows : goal.returns-clause-rows
returns-clause-rows g c =
    rw (← c.self.view_is) (row-pushed g.F.Field.modulus (record {
      rows = c.self.inside.rows;
      columns = c.self.inside.columns;
      stored = c.self.inside.stored;
      factors = c.self.inside.factors;
      pending = c.self.inside.pending;
      count = c.self.inside.count;
    })
    c.clear_row.new.m c.clear_row-2.new.m c.self.invariant c.clear_row.ensures.size.height_same
    c.clear_row.ensures.size.width_same c.clear_row.ensures.cleared c.clear_row.ensures.others
    c.clear_row-2.ensures.cleared c.clear_row-2.ensures.others)
