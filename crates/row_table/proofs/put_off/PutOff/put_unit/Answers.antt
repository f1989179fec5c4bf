use Rattle.std.proofs.Common.{◌<◌, subst, sym}
use Rattle.row_table.specs.PutOffs.{Kept}
use Rattle.row_table.proofs.PutOffLaws.{unit-put}
use Rattle.row_table.proofs.put_off.PutOff.put_unit.Goals as goal

pub returns-clause-put : goal.returns-clause-put
returns-clause-put g c =
    let row : c.args.r < c.self.inside.rows =
    subst (λ (d : Kept). c.args.r < d.rows) (sym c.self.view_is) c.requires.row in
    rw (← c.self.view_is) (unit-put g.F.Field.modulus g.met.F.Field.prime (record {
      rows = c.self.inside.rows;
      columns = c.self.inside.columns;
      stored = c.self.inside.stored;
      factors = c.self.inside.factors;
      pending = c.self.inside.pending;
      count = c.self.inside.count;
    })
    c.clear_column-2.new.m c.put.new.m c.clear_column.new.m c.args.r c.args.j _ c.self.invariant row
    c.clear_column.ensures.cleared c.clear_column.ensures.others c.clear_column-2.ensures.cleared
    c.clear_column-2.ensures.others
    c.one.ensures c.put.ensures.here c.put.ensures.other_rows c.put.ensures.other_columns)
