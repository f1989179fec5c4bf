use Rattle.std.proofs.Common.{◌≤◌, ap, sym, subst, ◌∙◌, arith}
use Rattle.std.proofs.lemmas.List.{length-map}
use Rattle.sparse_q.specs.Rows.{columns_raised}
use Rattle.sparse_q.specs.Tables.{SparseTable, sparse_rows}
use Rattle.row_table.specs.Layouts.{Layout}
use Rattle.row_table.specs.RowTables.{Combined}
use Rattle.row_table.specs.TableEdits.{IsTableWithColumn}
use Rattle.row_table.proofs.TableSteps.{parts, column-step, column-step-told}
use Rattle.row_table.proofs.table.RowTable.insert_column.Goals as goal

pub invariant_of-self : goal.invariant_of-self
invariant_of-self g c =
    let p = g.F.Field.modulus in
    let t : Combined = record {
      q = c.self.inside.q;
      kept = c.self.inside.table;
      layout = c.self.inside.places;
      row_room = c.self.inside.row_room;
      column_room = c.self.inside.column_room;
    } in (
      column-step p t c.insert_column.new.self c.push_column.new.self c.push_column-2.new.self c.args.at c.self.invariant.0
          c.is_layout.ensures (subst (λ (d : Combined). c.args.at ≤ d.q.width) (sym c.self.view_is) c.requires.at)
          c.push_column-2.ensures c.insert_column.ensures c.push_column.ensures,
      c.self.invariant.1 ∙ sym (ap sparse_rows c.insert_column.ensures ∙ length-map c.self.inside.q.rows (columns_raised c.args.at)),
      record {
        stored_rows = omega (arith, c.self.invariant.2.stored_rows, c.push_column.ensures.height_same);
        stored_columns = omega (arith, c.self.invariant.2.stored_columns, c.push_column.ensures.width_same);
        layout_rows = omega (arith, c.self.invariant.2.layout_rows, ap (λ (l : Layout). l.row_room) c.push_column-2.ensures);
        layout_columns = omega (arith, c.self.invariant.2.layout_columns, ap (λ (l : Layout). l.column_room) c.push_column-2.ensures);
        q_rows = omega (arith, c.self.invariant.2.q_rows, ap (λ (m : SparseTable). m.row_room) c.insert_column.ensures);
        q_columns = omega (arith, c.self.invariant.2.q_columns, ap (λ (m : SparseTable). m.column_room) c.insert_column.ensures);
        space_rows = c.self.invariant.2.space_rows;
      },
    )

pub returns-clause-column : goal.returns-clause-column
returns-clause-column g c =
    let p = g.F.Field.modulus in
    let t : Combined = record {
      q = c.self.inside.q;
      kept = c.self.inside.table;
      layout = c.self.inside.places;
      row_room = c.self.inside.row_room;
      column_room = c.self.inside.column_room;
    } in
    subst (λ d. IsTableWithColumn p d (parts t c.insert_column.new.self c.push_column.new.self c.push_column-2.new.self) c.args.at) c.self.view_is
    (column-step-told p t c.insert_column.new.self c.push_column.new.self c.push_column-2.new.self c.args.at c.self.invariant.0
    c.is_layout.ensures (subst (λ (d : Combined). c.args.at ≤ d.q.width) (sym c.self.view_is) c.requires.at)
    c.push_column-2.ensures c.insert_column.ensures c.push_column.ensures)
