use Rattle.std.proofs.Common.{arith, ◌≡◌, ◌+◌, ◌<◌, ap, sym, ◌∙◌, false, length, subst}
use Rattle.std.proofs.lemmas.List.{with_items_is}
use Rattle.sparse_q.specs.Tables.{sparse_rows}
use Rattle.row_table.specs.Layouts.{Layout, layout_places}
use Rattle.row_table.specs.RowTables.{Combined}
use Rattle.row_table.proofs.RowTableLaws.{p-reduced-by, pivoted-combined, read-reduced, s-reduced-by}
use Rattle.row_table.proofs.table.RowTable.exchange.Goals as goal

pub invariant_of-self : goal.invariant_of-self
invariant_of-self g c =
    let p = g.F.Field.modulus in
    let t : Combined = record {
      q = c.self.inside.q;
      kept = c.self.inside.table;
      layout = c.self.inside.places;
      row_room = c.self.inside.row_room;
      column_room = c.self.inside.column_room;
    } in (
      pivoted-combined p g.met.F.Field.prime t c.exchange.new.self c.exchange-2.new.self c.args.row
          c.args.column c.self.invariant.0
          (subst (λ (d : Combined). c.args.row < sparse_rows d.q) (sym c.self.view_is) c.requires.row)
          (subst (λ (d : Combined). c.args.column < d.q.width + sparse_rows d.q) (sym c.self.view_is) c.requires.column)
          (subst (λ (d : Combined). (layout_places d.layout).is_unit c.args.column ≡ false)
          (sym c.self.view_is) c.requires.other) c.exchange-2.ensures.exchanged
          (read-reduced p t c.exchange.new.self c.args.row c.args.column c.slot-slot.result c.self.invariant.0
          c.slot-slot.ensures.slot c.exchange.ensures.reduced)
          c.exchange.ensures.shape.rows_same c.exchange.ensures.shape.columns_same
          c.exchange-2.ensures.rows c.exchange-2.ensures.columns,
      ap (λ xs. length xs) (with_items_is c.self.inside.space c.exchange.new.space (c.exchange.ensures.length
          ∙ c.deref_mut.ensures.len)) ∙ c.exchange.ensures.length ∙ ap (λ xs. length xs) c.deref_mut.ensures.value
          ∙ c.self.invariant.1,
      record {
        stored_rows = omega (arith, c.self.invariant.2.stored_rows, c.exchange.ensures.shape.height_same);
        stored_columns = omega (arith, c.self.invariant.2.stored_columns, c.exchange.ensures.shape.width_same);
        layout_rows = omega (arith, c.self.invariant.2.layout_rows, ap (λ (l : Layout). l.row_room) c.exchange-2.ensures.moved);
        layout_columns = omega (arith, c.self.invariant.2.layout_columns, ap (λ (l : Layout). l.column_room) c.exchange-2.ensures.moved);
        q_rows = c.self.invariant.2.q_rows;
        q_columns = c.self.invariant.2.q_columns;
        space_rows = c.self.invariant.2.space_rows;
      },
    )

pub returns-clause-p : goal.returns-clause-p
returns-clause-p g c =
    let p = g.F.Field.modulus in
    let t : Combined = record {
      q = c.self.inside.q;
      kept = c.self.inside.table;
      layout = c.self.inside.places;
      row_room = c.self.inside.row_room;
      column_room = c.self.inside.column_room;
    } in
    rw (← c.self.view_is) (p-reduced-by p g.met.F.Field.prime t c.exchange.new.self c.exchange-2.new.self c.args.row
    c.args.column c.self.invariant.0
    (subst (λ (d : Combined). c.args.row < sparse_rows d.q) (sym c.self.view_is) c.requires.row)
    (subst (λ (d : Combined). c.args.column < d.q.width + sparse_rows d.q) (sym c.self.view_is) c.requires.column)
    (subst (λ (d : Combined). (layout_places d.layout).is_unit c.args.column ≡ false) (sym c.self.view_is) c.requires.other)
    c.exchange-2.ensures.exchanged
    (read-reduced p t c.exchange.new.self c.args.row c.args.column c.slot-slot.result c.self.invariant.0
    c.slot-slot.ensures.slot c.exchange.ensures.reduced))

pub returns-clause-s : goal.returns-clause-s
returns-clause-s g c =
    let p = g.F.Field.modulus in
    let t : Combined = record {
      q = c.self.inside.q;
      kept = c.self.inside.table;
      layout = c.self.inside.places;
      row_room = c.self.inside.row_room;
      column_room = c.self.inside.column_room;
    } in
    rw (← c.self.view_is) (s-reduced-by p g.met.F.Field.prime t c.exchange.new.self c.exchange-2.new.self c.args.row
    c.args.column c.self.invariant.0
    (subst (λ (d : Combined). c.args.row < sparse_rows d.q) (sym c.self.view_is) c.requires.row)
    (subst (λ (d : Combined). c.args.column < d.q.width + sparse_rows d.q) (sym c.self.view_is) c.requires.column)
    (subst (λ (d : Combined). (layout_places d.layout).is_unit c.args.column ≡ false) (sym c.self.view_is) c.requires.other)
    c.exchange-2.ensures.exchanged
    (read-reduced p t c.exchange.new.self c.args.row c.args.column c.slot-slot.result c.self.invariant.0
    c.slot-slot.ensures.slot c.exchange.ensures.reduced))
