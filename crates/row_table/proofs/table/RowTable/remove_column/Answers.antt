use Rattle.std.proofs.Common.{◌≡◌, ◌<◌, ◌%◌, ℕ, ap, sym, subst, ◌∙◌, arith}
use Rattle.sparse_q.specs.Tables.{number_in, sparse_rows}
use Rattle.row_table.specs.Layouts.{Layout}
use Rattle.row_table.specs.RowTables.{Combined}
use Rattle.row_table.specs.TableEdits.{IsTableWithoutColumn}
use Rattle.row_table.proofs.TableEdits.{zero-free}
use Rattle.row_table.proofs.TableSteps.{parts, cut-step, cut-step-told}
use Rattle.row_table.proofs.table.RowTable.remove_column.Goals as goal

pub slot-slot-requires-clause-other : goal.slot-slot-requires-clause-other
slot-slot-requires-clause-other g c =
    let p = g.F.Field.modulus in
    let t : Combined = record {
      q = c.self.inside.q;
      kept = c.self.inside.table;
      layout = c.self.inside.places;
      row_room = c.self.inside.row_room;
      column_room = c.self.inside.column_room;
    } in
    (zero-free p g.met.F.Field.prime t c.args.at c.self.invariant.0
    (subst (λ (d : Combined). c.args.at < d.q.width) (sym c.self.view_is) c.requires.at)
    (subst (λ (d : Combined). (i : ℕ) → i < sparse_rows d.q → number_in d.q i c.args.at % p ≡ 0) (sym c.self.view_is) c.requires.empty))

pub remove_column-requires-2-clause-other : goal.remove_column-requires-2-clause-other
remove_column-requires-2-clause-other g c =
    let p = g.F.Field.modulus in
    let t : Combined = record {
      q = c.self.inside.q;
      kept = c.self.inside.table;
      layout = c.self.inside.places;
      row_room = c.self.inside.row_room;
      column_room = c.self.inside.column_room;
    } in
    (zero-free p g.met.F.Field.prime t c.args.at c.self.invariant.0
    (subst (λ (d : Combined). c.args.at < d.q.width) (sym c.self.view_is) c.requires.at)
    (subst (λ (d : Combined). (i : ℕ) → i < sparse_rows d.q → number_in d.q i c.args.at % p ≡ 0) (sym c.self.view_is) c.requires.empty))

pub invariant_of-self : goal.invariant_of-self
invariant_of-self g c =
    let p = g.F.Field.modulus in
    let t : Combined = record {
      q = c.self.inside.q;
      kept = c.self.inside.table;
      layout = c.self.inside.places;
      row_room = c.self.inside.row_room;
      column_room = c.self.inside.column_room;
    } in (
      cut-step p t c.remove_column-3.new.self c.remove_column.new.self c.remove_column-2.new.self c.args.at c.slot-slot.result c.self.invariant.0
          c.is_layout.ensures (subst (λ (d : Combined). c.args.at < d.q.width) (sym c.self.view_is) c.requires.at)
          (zero-free p g.met.F.Field.prime t c.args.at c.self.invariant.0
          (subst (λ (d : Combined). c.args.at < d.q.width) (sym c.self.view_is) c.requires.at)
          (subst (λ (d : Combined). (i : ℕ) → i < sparse_rows d.q → number_in d.q i c.args.at % p ≡ 0) (sym c.self.view_is) c.requires.empty))
          c.slot-slot.ensures.slot c.remove_column-2.ensures c.remove_column-3.ensures c.remove_column.ensures,
      c.self.invariant.1 ∙ sym c.remove_column-3.ensures.rows_same,
      record {
        stored_rows = omega (arith, c.self.invariant.2.stored_rows, c.remove_column.ensures.height_same);
        stored_columns = omega (arith, c.self.invariant.2.stored_columns, c.remove_column.ensures.width_same);
        layout_rows = omega (arith, c.self.invariant.2.layout_rows, ap (λ (l : Layout). l.row_room) c.remove_column-2.ensures);
        layout_columns = omega (arith, c.self.invariant.2.layout_columns, ap (λ (l : Layout). l.column_room) c.remove_column-2.ensures);
        q_rows = omega (arith, c.self.invariant.2.q_rows, c.remove_column-3.ensures.row_room);
        q_columns = omega (arith, c.self.invariant.2.q_columns, c.remove_column-3.ensures.column_room);
        space_rows = c.self.invariant.2.space_rows;
      },
    )

pub returns-clause-column : goal.returns-clause-column
returns-clause-column g c =
    let p = g.F.Field.modulus in
    let t : Combined = record {
      q = c.self.inside.q;
      kept = c.self.inside.table;
      layout = c.self.inside.places;
      row_room = c.self.inside.row_room;
      column_room = c.self.inside.column_room;
    } in
    subst (λ d. IsTableWithoutColumn p d (parts t c.remove_column-3.new.self c.remove_column.new.self c.remove_column-2.new.self) c.args.at) c.self.view_is
    (cut-step-told p t c.remove_column-3.new.self c.remove_column.new.self c.remove_column-2.new.self c.args.at c.slot-slot.result c.self.invariant.0
    c.is_layout.ensures (subst (λ (d : Combined). c.args.at < d.q.width) (sym c.self.view_is) c.requires.at)
    (zero-free p g.met.F.Field.prime t c.args.at c.self.invariant.0
    (subst (λ (d : Combined). c.args.at < d.q.width) (sym c.self.view_is) c.requires.at)
    (subst (λ (d : Combined). (i : ℕ) → i < sparse_rows d.q → number_in d.q i c.args.at % p ≡ 0) (sym c.self.view_is) c.requires.empty))
    c.slot-slot.ensures.slot c.remove_column-2.ensures c.remove_column-3.ensures c.remove_column.ensures)
