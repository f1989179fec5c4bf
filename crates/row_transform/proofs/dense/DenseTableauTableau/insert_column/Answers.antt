use Rattle.std.proofs.Common.{◌≡◌, ◌≤◌, ap, arith}
use Rattle.sparse_q.specs.Tables.{sparse_rows}
use Rattle.row_table.specs.RowTables.{p_part}
use Rattle.row_transform.specs.Dense.{Dense}
use Rattle.row_transform.proofs.DenseEdits.{column-dense, column-listed}
use Rattle.row_transform.proofs.dense.DenseTableauTableau.insert_column.Goals as goal

pub invariant_of-self : goal.invariant_of-self
invariant_of-self g c =
    let p = g.F.Field.modulus in
    let d : Dense = record {
      table = c.self.inside.table;
      base = c.self.inside.base;
      row_room = c.self.inside.row_room;
      column_room = c.self.inside.column_room;
    } in
    let width : d.table.q.width ≡ c.args.self.now.table.q.width = ap (λ (d : Dense). d.table.q.width) c.self.view_is in
    let at : c.args.at ≤ d.table.q.width = omega (arith, width, c.requires.at) in (
      column-dense p g.met.F.Field.prime d c.insert_column.new.self c.insert_column-3.new.self c.args.at at c.self.invariant.0
          c.is_table.ensures.combined c.insert_column.ensures.column c.insert_column-3.ensures,
      column-listed p (sparse_rows d.table.q) d.table.q.width _ _ c.args.at c.columns-columns.result (p_part p d.table)
          (p_part p c.insert_column.new.self) c.self.inside.entries.bits c.insert_column-2.new.self.bits at
          c.insert_column.ensures.column.q_is.rows_same c.insert_column.ensures.column.q_is.width_are c.columns-columns.ensures.columns
          (omega (arith, c.self.invariant.2.listed_columns, c.requires.cols, width, ap (λ (d : Dense). d.column_room) c.self.view_is))
          c.self.invariant.1 c.insert_column.ensures.column.here c.insert_column.ensures.column.others c.insert_column-2.ensures,
      record {
        table_rows = omega (arith, c.self.invariant.2.table_rows, c.insert_column.ensures.room.rows_same);
        table_columns = omega (arith, c.self.invariant.2.table_columns, c.insert_column.ensures.room.columns_same);
        base_rows = omega (arith, c.self.invariant.2.base_rows, c.insert_column-3.ensures.counts.row_room);
        base_columns = omega (arith, c.self.invariant.2.base_columns, c.insert_column-3.ensures.counts.column_room);
        listed_rows = omega (arith, c.self.invariant.2.listed_rows, c.insert_column-2.ensures.size.size_same);
        listed_columns = omega (arith, c.self.invariant.2.listed_columns, c.insert_column-2.ensures.size.rows_same);
        few = c.self.invariant.2.few;
        narrow = c.self.invariant.2.narrow;
      },
    )
