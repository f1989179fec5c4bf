use Rattle.std.proofs.Common.{arith}
use Rattle.row_transform.specs.Dense.{Dense}
use Rattle.row_transform.proofs.DenseRemovals.{freed-dense}
use Rattle.row_transform.proofs.dense.DenseTableau.free_row.Goals as goal

pub invariant_of-self : goal.invariant_of-self
invariant_of-self g c =
    let d : Dense = record {
      table = c.self.inside.table;
      base = c.self.inside.base;
      row_room = c.self.inside.row_room;
      column_room = c.self.inside.column_room;
    } in (
      freed-dense g.F.Field.modulus d c.free_row.new.self c.free_row.result c.self.invariant.0 c.free_row.ensures.none c.free_row.ensures.rows
          c.free_row.ensures.columns c.free_row.ensures.dropped,
      c.self.invariant.1,
      record {
        table_rows = c.self.invariant.2.table_rows;
        table_columns = c.self.invariant.2.table_columns;
        base_rows = omega (arith, c.self.invariant.2.base_rows, c.free_row.ensures.counts.row_room);
        base_columns = omega (arith, c.self.invariant.2.base_columns, c.free_row.ensures.counts.column_room);
        listed_rows = c.self.invariant.2.listed_rows;
        listed_columns = c.self.invariant.2.listed_columns;
        few = c.self.invariant.2.few;
        narrow = c.self.invariant.2.narrow;
      },
    )
