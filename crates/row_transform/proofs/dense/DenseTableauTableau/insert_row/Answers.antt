use Rattle.std.proofs.Common.{◌≡◌, map, slice_index, ap, arith}
use Rattle.sparse_q.specs.Tables.{sparse_rows}
use Rattle.row_table.specs.RowTables.{p_part}
use Rattle.row_transform.specs.Dense.{Dense}
use Rattle.row_transform.proofs.DenseEdits.{row-dense, row-listed}
use Rattle.row_transform.proofs.dense.DenseTableauTableau.insert_row.Goals as goal

pub invariant_of-self : goal.invariant_of-self
invariant_of-self g c =
    let p = g.F.Field.modulus in
    let d : Dense = record {
      table = c.self.inside.table;
      base = c.self.inside.base;
      row_room = c.self.inside.row_room;
      column_room = c.self.inside.column_room;
    } in
    let width : d.table.q.width ≡ c.args.self.now.table.q.width = ap (λ (d : Dense). d.table.q.width) c.self.view_is in (
      row-dense p g.met.F.Field.prime d c.insert_row.new.self c.insert_row-2.new.self c.args.at c.rows-row.result
          (λ j. slice_index (map g.F.Field.number c.args.items.now) j) c.self.invariant.0 c.is_table.ensures.combined
          c.rows-row.ensures.rows c.insert_row.ensures.row c.insert_row-2.ensures,
      row-listed p (sparse_rows d.table.q) d.table.q.width _ _ c.rows-row.result (p_part p d.table)
          (p_part p c.insert_row.new.self) c.self.inside.entries.bits c.list_row.new.entries.bits c.rows-row.ensures.rows
          c.insert_row.ensures.row.q_is.rows_are c.insert_row.ensures.row.q_is.width_same c.self.invariant.1
          c.insert_row.ensures.row.rows_stay
          (omega (
            arith,
            c.self.invariant.2.listed_rows,
            c.requires.rows,
            ap (λ (d : Dense). d.row_room) c.self.view_is,
            ap (λ (d : Dense). sparse_rows d.table.q) c.self.view_is,
          ))
          c.list_row.ensures.size c.list_row.ensures.listed c.list_row.ensures.kept,
      record {
        table_rows = omega (arith, c.self.invariant.2.table_rows, c.insert_row.ensures.room.rows_same);
        table_columns = omega (arith, c.self.invariant.2.table_columns, c.insert_row.ensures.room.columns_same);
        base_rows = omega (arith, c.self.invariant.2.base_rows, c.insert_row-2.ensures.counts.row_room);
        base_columns = omega (arith, c.self.invariant.2.base_columns, c.insert_row-2.ensures.counts.column_room);
        listed_rows = omega (arith, c.self.invariant.2.listed_rows, c.list_row.ensures.size.size_same);
        listed_columns = omega (arith, c.self.invariant.2.listed_columns, c.list_row.ensures.size.rows_same);
        few = c.self.invariant.2.few;
        narrow = c.self.invariant.2.narrow;
      },
    )
