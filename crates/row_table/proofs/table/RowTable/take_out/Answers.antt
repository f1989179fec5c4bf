use Rattle.std.proofs.Common.{ℕ, length, ◌≡◌, ◌+◌, ◌<◌, ap, sym, subst, ◌∙◌, arith}
use Rattle.std.proofs.lemmas.List.{length-take}
use Rattle.std.proofs.lemmas.List.Edits.{length-remove}
use Rattle.sparse_q.specs.Tables.{SparseTable, sparse_rows}
use Rattle.row_table.specs.Layouts.{Layout}
use Rattle.row_table.specs.Places.{last_at}
use Rattle.row_table.specs.RowTables.{Combined, p_part}
use Rattle.row_table.specs.TableEdits.{IsTableWithoutRow, basic_of}
use Rattle.row_table.proofs.TableSteps.{parts, row-out-entry, row-out-step, row-out-told}
use Rattle.row_table.proofs.table.RowTable.take_out.Goals as goal

pub invariant_of-self : goal.invariant_of-self
invariant_of-self g c =
    let p = g.F.Field.modulus in
    let t : Combined = record {
      q = c.self.inside.q;
      kept = c.self.inside.table;
      layout = c.self.inside.places;
      row_room = c.self.inside.row_room;
      column_room = c.self.inside.column_room;
    } in (
      row-out-step p t c.remove_row-3.new.self c.remove_row.new.self c.remove_row-2.new.self c.args.at c.args.row c.self.invariant.0
          c.is_layout.ensures (subst (λ (d : Combined). c.args.at < sparse_rows d.q) (sym c.self.view_is) c.requires.at)
          (subst (λ (d : Combined). c.args.row < sparse_rows d.q) (sym c.self.view_is) c.requires.row)
          (subst (λ (d : Combined). basic_of d c.args.row ≡ d.q.width + c.args.at) (sym c.self.view_is) c.requires.basic)
          c.remove_row-2.ensures c.remove_row-3.ensures c.remove_row.ensures,
      ap (λ xs. length xs) c.pop.ensures.rest ∙ length-take _ c.self.inside.space.items
          ∙ omega (
            arith,
            c.self.inside.space.ok.0,
            c.self.invariant.1,
            ap (λ (m : SparseTable). sparse_rows m + 1) c.remove_row-3.ensures,
            length-remove c.self.inside.q.rows c.args.at (subst (λ (d : Combined). c.args.at < sparse_rows d.q) (sym c.self.view_is) c.requires.at),
          ),
      record {
        stored_rows = omega (arith, c.self.invariant.2.stored_rows, c.remove_row.ensures.height_same);
        stored_columns = omega (arith, c.self.invariant.2.stored_columns, c.remove_row.ensures.width_same);
        layout_rows = omega (arith, c.self.invariant.2.layout_rows, ap (λ (l : Layout). l.row_room) c.remove_row-2.ensures);
        layout_columns = omega (arith, c.self.invariant.2.layout_columns, ap (λ (l : Layout). l.column_room) c.remove_row-2.ensures);
        q_rows = omega (arith, c.self.invariant.2.q_rows, ap (λ (m : SparseTable). m.row_room) c.remove_row-3.ensures);
        q_columns = omega (arith, c.self.invariant.2.q_columns, ap (λ (m : SparseTable). m.column_room) c.remove_row-3.ensures);
        space_rows = omega (arith, c.self.invariant.2.space_rows, c.pop.ensures.capacity);
      },
    )

pub returns-clause-row : goal.returns-clause-row
returns-clause-row g c =
    let p = g.F.Field.modulus in
    let t : Combined = record {
      q = c.self.inside.q;
      kept = c.self.inside.table;
      layout = c.self.inside.places;
      row_room = c.self.inside.row_room;
      column_room = c.self.inside.column_room;
    } in
    subst (λ d. IsTableWithoutRow p d (parts t c.remove_row-3.new.self c.remove_row.new.self c.remove_row-2.new.self) c.args.at c.args.row) c.self.view_is
    (row-out-told p t c.remove_row-3.new.self c.remove_row.new.self c.remove_row-2.new.self c.args.at c.args.row c.self.invariant.0
    c.is_layout.ensures (subst (λ (d : Combined). c.args.at < sparse_rows d.q) (sym c.self.view_is) c.requires.at)
    (subst (λ (d : Combined). c.args.row < sparse_rows d.q) (sym c.self.view_is) c.requires.row)
    (subst (λ (d : Combined). basic_of d c.args.row ≡ d.q.width + c.args.at) (sym c.self.view_is) c.requires.basic)
    c.remove_row-2.ensures c.remove_row-3.ensures c.remove_row.ensures)

pub returns-clause-entries : goal.returns-clause-entries
returns-clause-entries g c =
    let p = g.F.Field.modulus in
    let t : Combined = record {
      q = c.self.inside.q;
      kept = c.self.inside.table;
      layout = c.self.inside.places;
      row_room = c.self.inside.row_room;
      column_room = c.self.inside.column_room;
    } in
    subst (λ (d : Combined). (i j : ℕ) → i < sparse_rows c.remove_row-3.new.self → j < d.q.width →
    p_part p (parts t c.remove_row-3.new.self c.remove_row.new.self c.remove_row-2.new.self) i j
    ≡ p_part p d (last_at c.args.row (sparse_rows c.remove_row-3.new.self) i) j) c.self.view_is
    (row-out-entry p t c.remove_row-3.new.self c.remove_row.new.self c.remove_row-2.new.self c.args.at c.args.row c.self.invariant.0
    c.is_layout.ensures (subst (λ (d : Combined). c.args.at < sparse_rows d.q) (sym c.self.view_is) c.requires.at)
    (subst (λ (d : Combined). c.args.row < sparse_rows d.q) (sym c.self.view_is) c.requires.row)
    (subst (λ (d : Combined). basic_of d c.args.row ≡ d.q.width + c.args.at) (sym c.self.view_is) c.requires.basic)
    c.remove_row-2.ensures c.remove_row-3.ensures c.remove_row.ensures)
