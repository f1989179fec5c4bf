use Rattle.std.proofs.Common.{◌∙◌, ap, ◌<◌, ◌≡◌, false, sym, subst}
use Rattle.row_table.specs.Layouts.{Layout, rows_of_layout, all, layout_places}
use Rattle.row_table.proofs.LayoutLaws.{read-laid, read-moved, moved-places}
use Rattle.row_table.proofs.layout.Placement.exchange.Goals as goal

pub invariant_of-self : goal.invariant_of-self
invariant_of-self c = (
  read-laid (record {
    columns = c.self.inside.columns;
    basic = c.self.inside.basic.items;
    units =
        c.self.inside.units.items;
    unit_rows = c.self.inside.rows.items;
    slots = c.self.inside.slots.items;
    row_room = c.self.inside.row_room;
    column_room = c.self.inside.column_room;
  })
      c.args.row c.args.column c.index-gone.result.now c.index.result.now c.self.invariant.0
      (subst (λ (l : Layout). c.args.row < rows_of_layout l) (sym c.self.view_is) c.requires.row)
      (subst (λ (l : Layout). c.args.column < all l) (sym c.self.view_is) c.requires.column)
      (subst (λ (l : Layout). (layout_places l).is_unit c.args.column ≡ false) (sym c.self.view_is) c.requires.other)
      c.index-gone.ensures c.index.ensures,
  record {
    basic_room = c.self.invariant.1.basic_room;
    units_room = c.self.invariant.1.units_room;
    rows_room = c.self.invariant.1.rows_room;
    slots_room = c.self.invariant.1.slots_room;
    row_room_few = c.self.invariant.1.row_room_few;
    column_room_few = c.self.invariant.1.column_room_few;
  },
)

pub returns-clause-moved : goal.returns-clause-moved
returns-clause-moved c =
    rw (← c.self.view_is) (read-moved (record {
      columns = c.self.inside.columns;
      basic = c.self.inside.basic.items;
      units = c.self.inside.units.items;
      unit_rows = c.self.inside.rows.items;
      slots = c.self.inside.slots.items;
      row_room = c.self.inside.row_room;
      column_room = c.self.inside.column_room;
    })
    c.args.row c.args.column c.index-gone.result.now c.index.result.now c.self.invariant.0
    (subst (λ (l : Layout). c.args.row < rows_of_layout l) (sym c.self.view_is) c.requires.row)
    (subst (λ (l : Layout). c.args.column < all l) (sym c.self.view_is) c.requires.column)
    c.index-gone.ensures c.index.ensures)

pub returns-clause-exchanged : goal.returns-clause-exchanged
returns-clause-exchanged c = ap (λ (l : Layout). layout_places l) (returns-clause-moved c)
    ∙ (rw (← c.self.view_is)
    (moved-places (record {
      columns = c.self.inside.columns;
      basic = c.self.inside.basic.items;
      units =
          c.self.inside.units.items;
      unit_rows = c.self.inside.rows.items;
      slots = c.self.inside.slots.items;
      row_room = c.self.inside.row_room;
      column_room = c.self.inside.column_room;
    })
    c.args.row c.args.column c.self.invariant.0
    (subst (λ (l : Layout). c.args.row < rows_of_layout l) (sym c.self.view_is) c.requires.row)
    (subst (λ (l : Layout). c.args.column < all l) (sym c.self.view_is) c.requires.column)))
