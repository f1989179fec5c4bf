use Rattle.std.proofs.Common.{◌≡◌, ◌<◌, ◌≤◌, ◌∷◌, ◌++◌, ◌∙◌, [], length, map, ap, refl, sym, subst, arith}
use Rattle.std.proofs.lemmas.List.{length-map, with_items_is}
use Rattle.std.specs.List.{insert}
use Rattle.linear_algebra.specs.Parts.{skip}
use Rattle.row_table.specs.Layouts.{Layout, IsLayout, all, layout_with_row, rows_of_layout}
use Rattle.row_table.proofs.LayoutEdits.{has-room, lists, row-laid, same-lists}
use Rattle.row_table.proofs.layout.Placement.push_row.Goals as goal

pub invariant_of-self : goal.invariant_of-self
invariant_of-self c =
    let v = c.args.v in
    let old : Layout = lists c.self.inside.columns c.self.inside.basic.items c.self.inside.units.items c.self.inside.rows.items
    c.self.inside.slots.items c.self.inside.row_room c.self.inside.column_room in
    let is : c.raise.new.numbers ≡ map (skip v) c.self.inside.basic.items =
    c.raise.ensures ∙ ap (map (skip v)) c.deref_mut.ensures.value in
    let basic : c.push_reserved.new.self.items ≡ map (skip v) c.self.inside.basic.items ++ v ∷ [] =
    c.push_reserved.ensures.items ∙ ap (λ xs. xs ++ v ∷ []) (with_items_is c.self.inside.basic c.raise.new.numbers
    (ap (λ xs. length xs) is ∙ length-map c.self.inside.basic.items (skip v) ∙ sym c.self.inside.basic.ok.0) ∙ is) in
    let now : Layout = lists c.self.inside.columns c.push_reserved.new.self.items c.put_in.new.list.items
    c.put_in-2.new.list.items c.put_in-3.new.list.items c.self.inside.row_room c.self.inside.column_room in
    let row : c.len-row.result ≡ length c.self.inside.basic.items = omega (arith, c.len-row.ensures, c.self.inside.basic.ok.0) in
    let made : now ≡ layout_with_row old v = same-lists c.self.inside.columns _ _ _ _ _ _ _ _ _ _ basic
    c.put_in.ensures.items (c.put_in-2.ensures.items ∙ ap (insert c.self.inside.rows.items v) row) c.put_in-3.ensures.items in (
      subst IsLayout (sym made) (row-laid old v c.self.invariant.0
          (subst (λ (l : Layout). v ≤ all l) (sym c.self.view_is) c.requires.column)
          (subst (λ (l : Layout). rows_of_layout l < 8192) (sym c.self.view_is) c.requires.few)),
      has-room old now _ _ _ _ _ _ _ _ c.self.invariant.1 refl refl (omega (arith, c.push_reserved.ensures.capacity))
          c.put_in.ensures.capacity c.put_in-2.ensures.capacity c.put_in-3.ensures.capacity,
    )
