use Rattle.std.proofs.Common.{arith}
use Rattle.row_transform.proofs.DenseLaws.{dropped-dense}
use Rattle.row_transform.proofs.dense.DenseTableauTableau.drop_base.Goals as goal

pub invariant_of-self : goal.invariant_of-self
invariant_of-self g c = (
  dropped-dense g.F.Field.modulus (record {
    table = c.self.inside.table;
    base = c.self.inside.base;
    row_room = c.self.inside.row_room;
    column_room = c.self.inside.column_room;
  })
      c.leave.new.self _ c.self.invariant.0 c.leave.ensures.rows c.leave.ensures.columns c.leave.ensures.dropped,
  c.self.invariant.1,
  record {
    table_rows = c.self.invariant.2.table_rows;
    table_columns = c.self.invariant.2.table_columns;
    base_rows = omega (arith, c.self.invariant.2.base_rows, c.leave.ensures.row_room);
    base_columns = omega (arith, c.self.invariant.2.base_columns, c.leave.ensures.column_room);
    listed_rows = c.self.invariant.2.listed_rows;
    listed_columns = c.self.invariant.2.listed_columns;
    few = c.self.invariant.2.few;
    narrow = c.self.invariant.2.narrow;
  },
)
