use Rattle.std.proofs.Common.{◌<◌, ◌-◌, sym, subst, arith}
use Rattle.linear_algebra.specs.Bases.{HasNoBase}
use Rattle.sparse_q.specs.Tables.{sparse_rows}
use Rattle.row_transform.specs.Bases.{base_row, is_base}
use Rattle.row_transform.specs.Dense.{Dense}
use Rattle.row_transform.proofs.DenseLeaves.{row-out-dense, row-out-listed}
use Rattle.row_transform.proofs.dense.DenseTableau.take_row.Goals as goal

pub invariant_of-self : goal.invariant_of-self
invariant_of-self g c =
    let p = g.F.Field.modulus in
    let d : Dense = record {
      table = c.self.inside.table;
      base = c.self.inside.base;
      row_room = c.self.inside.row_room;
      column_room = c.self.inside.column_room;
    } in
    let kl : c.args.row < sparse_rows d.table.q = subst (λ (d : Dense). c.args.row < sparse_rows d.table.q) (sym c.self.view_is)
    c.requires.row in
    let bare : HasNoBase d.table.q.width (is_base d.base) (base_row d.base) c.args.row =
    subst (λ (d : Dense). HasNoBase d.table.q.width (is_base d.base) (base_row d.base) c.args.row) (sym c.self.view_is)
    c.requires.bare in (
      row-out-dense p g.met.F.Field.prime d c.remove_row.new.self c.swap_remove_row.new.self c.args.at c.args.row c.self.invariant.0
          c.is_table.ensures.combined kl c.remove_row.ensures.row c.swap_remove_row.ensures bare,
      row-out-listed p d.table c.remove_row.new.self c.self.inside.entries.bits c.list_changed.new.entries.bits c.list_as.new.self.bits
          c.args.at c.args.row (c.rows.result - 1) c.columns-columns.result kl (omega (arith, c.rows.ensures.rows, kl)) c.columns-columns.ensures.columns
          c.remove_row.ensures.row c.self.invariant.1 c.list_changed.ensures.size c.list_changed.ensures.joined
          c.list_changed.ensures.kept c.list_as.ensures,
      record {
        table_rows = omega (arith, c.self.invariant.2.table_rows, c.remove_row.ensures.room.rows_same);
        table_columns = omega (arith, c.self.invariant.2.table_columns, c.remove_row.ensures.room.columns_same);
        base_rows = omega (arith, c.self.invariant.2.base_rows, c.swap_remove_row.ensures.counts.row_room);
        base_columns = omega (arith, c.self.invariant.2.base_columns, c.swap_remove_row.ensures.counts.column_room);
        listed_rows = omega (arith, c.self.invariant.2.listed_rows, c.list_changed.ensures.size.size_same, c.list_as.ensures.size.size_same);
        listed_columns = omega (arith, c.self.invariant.2.listed_columns, c.list_changed.ensures.size.rows_same, c.list_as.ensures.size.rows_same);
        few = c.self.invariant.2.few;
        narrow = c.self.invariant.2.narrow;
      },
    )
