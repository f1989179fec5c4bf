use Rattle.std.proofs.Common.{◌≤◌, length, map, slice_index, ap, sym, subst, ◌∙◌, arith}
use Rattle.sparse_q.specs.Tables.{sparse_rows}
use Rattle.row_table.specs.Layouts.{Layout}
use Rattle.row_table.specs.RowTables.{Combined}
use Rattle.row_table.specs.TableEdits.{IsTableWithRow}
use Rattle.row_table.proofs.TableSteps.{parts, row-step, row-step-told}
use Rattle.row_table.proofs.table.RowTable.insert_row.Goals as goal

pub invariant_of-self : goal.invariant_of-self
invariant_of-self g c =
    let p = g.F.Field.modulus in
    let t : Combined = record {
      q = c.self.inside.q;
      kept = c.self.inside.table;
      layout = c.self.inside.places;
      row_room = c.self.inside.row_room;
      column_room = c.self.inside.column_room;
    } in (
      row-step p g.met.F.Field.prime.above_one t c.join_q.new.q c.join_table.new.table c.push_row.new.self c.args.at _
          (length c.args.items.now) (λ j. slice_index (map g.F.Field.number c.args.items.now) j) c.self.invariant.0 c.is_layout.ensures
          (subst (λ (d : Combined). c.args.at ≤ sparse_rows d.q) (sym c.self.view_is) c.requires.at)
          (omega (arith, c.columns.ensures.columns, ap (λ (d : Combined). d.q.width) c.self.view_is))
          (c.requires.items ∙ ap (λ (d : Combined). d.q.width) (sym c.self.view_is)) c.push_row.ensures c.join_q.ensures.row
          c.join_table.ensures.rows c.join_table.ensures.columns c.join_table.ensures.small c.join_table.ensures.stays
          c.join_table.ensures.joins,
      omega (arith, c.push_reserved.ensures.len, c.push_reserved.new.self.ok.0, c.self.inside.space.ok.0, c.self.invariant.1, c.join_q.ensures.row.rows_are),
      record {
        stored_rows = omega (arith, c.self.invariant.2.stored_rows, c.join_table.ensures.height);
        stored_columns = omega (arith, c.self.invariant.2.stored_columns, c.join_table.ensures.width);
        layout_rows = omega (arith, c.self.invariant.2.layout_rows, ap (λ (l : Layout). l.row_room) c.push_row.ensures);
        layout_columns = omega (arith, c.self.invariant.2.layout_columns, ap (λ (l : Layout). l.column_room) c.push_row.ensures);
        q_rows = omega (arith, c.self.invariant.2.q_rows, c.join_q.ensures.row_room);
        q_columns = omega (arith, c.self.invariant.2.q_columns, c.join_q.ensures.column_room);
        space_rows = omega (arith, c.self.invariant.2.space_rows, c.push_reserved.ensures.capacity);
      },
    )

pub returns-clause-row : goal.returns-clause-row
returns-clause-row g c =
    let p = g.F.Field.modulus in
    let t : Combined = record {
      q = c.self.inside.q;
      kept = c.self.inside.table;
      layout = c.self.inside.places;
      row_room = c.self.inside.row_room;
      column_room = c.self.inside.column_room;
    } in
    subst (λ d. IsTableWithRow p d (parts t c.join_q.new.q c.join_table.new.table c.push_row.new.self) c.args.at (λ j. slice_index
    (map g.F.Field.number c.args.items.now) j)) c.self.view_is
    (row-step-told p g.met.F.Field.prime.above_one t c.join_q.new.q c.join_table.new.table c.push_row.new.self c.args.at _
    (length c.args.items.now) (λ j. slice_index (map g.F.Field.number c.args.items.now) j) c.self.invariant.0 c.is_layout.ensures
    (subst (λ (d : Combined). c.args.at ≤ sparse_rows d.q) (sym c.self.view_is) c.requires.at)
    (omega (arith, c.columns.ensures.columns, ap (λ (d : Combined). d.q.width) c.self.view_is))
    (c.requires.items ∙ ap (λ (d : Combined). d.q.width) (sym c.self.view_is)) c.push_row.ensures c.join_q.ensures.row
    c.join_table.ensures.rows c.join_table.ensures.columns c.join_table.ensures.small c.join_table.ensures.stays
    c.join_table.ensures.joins)
