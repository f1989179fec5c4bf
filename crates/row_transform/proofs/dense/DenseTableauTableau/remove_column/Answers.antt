use Rattle.std.proofs.Common.{◌≡◌, ◌%◌, ◌<◌, ℕ, ap, sym, subst, arith}
use Rattle.sparse_q.specs.Tables.{number_in, sparse_rows}
use Rattle.row_table.specs.RowTables.{p_part}
use Rattle.row_transform.specs.Dense.{Dense}
use Rattle.row_transform.proofs.DenseEdits.{cut-dense, cut-listed, zero-no_base}
use Rattle.row_transform.proofs.dense.DenseTableauTableau.remove_column.Goals as goal

pub remove_column-requires-3-clause-free : goal.remove_column-requires-3-clause-free
remove_column-requires-3-clause-free g c =
    let p = g.F.Field.modulus in
    let d : Dense = record {
      table = c.self.inside.table;
      base = c.self.inside.base;
      row_room = c.self.inside.row_room;
      column_room = c.self.inside.column_room;
    } in
    let width : d.table.q.width ≡ c.args.self.now.table.q.width = ap (λ (d : Dense). d.table.q.width) c.self.view_is in
    zero-no_base p g.met.F.Field.prime d c.columns-columns.ensures.combined c.self.invariant.0 c.args.at
    (omega (arith, width, c.requires.at))
    (subst (λ (d : Dense). (i : ℕ) → i < sparse_rows d.table.q → number_in d.table.q i c.args.at % p ≡ 0) (sym c.self.view_is)
    c.requires.empty)

pub invariant_of-self : goal.invariant_of-self
invariant_of-self g c =
    let p = g.F.Field.modulus in
    let d : Dense = record {
      table = c.self.inside.table;
      base = c.self.inside.base;
      row_room = c.self.inside.row_room;
      column_room = c.self.inside.column_room;
    } in
    let width : d.table.q.width ≡ c.args.self.now.table.q.width = ap (λ (d : Dense). d.table.q.width) c.self.view_is in
    let at : c.args.at < d.table.q.width = omega (arith, width, c.requires.at) in (
      cut-dense p g.met.F.Field.prime d c.remove_column.new.self c.remove_column-3.new.self c.args.at at c.self.invariant.0
          c.is_table.ensures.combined c.remove_column.ensures.column c.remove_column-3.ensures,
      cut-listed p (sparse_rows d.table.q) d.table.q.width _ _ c.args.at c.columns-columns.result (p_part p d.table)
          (p_part p c.remove_column.new.self) c.self.inside.entries.bits c.remove_column-2.new.self.bits at
          c.remove_column.ensures.column.q_is.rows_same c.remove_column.ensures.column.q_is.width_are c.columns-columns.ensures.columns
          c.self.invariant.1 c.remove_column.ensures.column.columns_are c.remove_column-2.ensures,
      record {
        table_rows = omega (arith, c.self.invariant.2.table_rows, c.remove_column.ensures.room.rows_same);
        table_columns = omega (arith, c.self.invariant.2.table_columns, c.remove_column.ensures.room.columns_same);
        base_rows = omega (arith, c.self.invariant.2.base_rows, c.remove_column-3.ensures.counts.row_room);
        base_columns = omega (arith, c.self.invariant.2.base_columns, c.remove_column-3.ensures.counts.column_room);
        listed_rows = omega (arith, c.self.invariant.2.listed_rows, c.remove_column-2.ensures.size.size_same);
        listed_columns = omega (arith, c.self.invariant.2.listed_columns, c.remove_column-2.ensures.size.rows_same);
        few = c.self.invariant.2.few;
        narrow = c.self.invariant.2.narrow;
      },
    )
