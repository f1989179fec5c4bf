use Rattle.std.proofs.Common.{◌≡◌, ◌-◌, ◌<◌, ◌∙◌, false, cond, eqb, length, map, slice_index, ap, refl, sym, subst, arith}
use Rattle.std.proofs.lemmas.List.{get_or_read, length-map, with_items_is}
use Rattle.std.specs.List.{remove}
use Rattle.linear_algebra.specs.Parts.{unskip}
use Rattle.row_table.specs.Layouts.{Layout, IsLayout, all, layout_places, layout_without_column}
use Rattle.row_table.proofs.LayoutEdits.{column-gone-laid, has-room, lists, same-lists}
use Rattle.row_table.proofs.layout.Placement.remove_column.Goals as goal

pub invariant_of-self : goal.invariant_of-self
invariant_of-self c =
    let v = c.args.v in
    let old : Layout = lists c.self.inside.columns c.self.inside.basic.items c.self.inside.units.items c.self.inside.rows.items
    c.self.inside.slots.items c.self.inside.row_room c.self.inside.column_room in
    let is : c.lower.new.numbers ≡ map (unskip v) c.self.inside.basic.items =
    c.lower.ensures ∙ ap (map (unskip v)) c.deref_mut.ensures.value in
    let basic = with_items_is c.self.inside.basic c.lower.new.numbers
    (ap (λ xs. length xs) is ∙ length-map c.self.inside.basic.items (unskip v) ∙ sym c.self.inside.basic.ok.0) ∙ is in
    let vl : v < all old = subst (λ (l : Layout). v < all l) (sym c.self.view_is) c.requires.column in
    let slot : c.remove-slot.result ≡ slice_index c.self.inside.slots.items v =
    get_or_read c.self.inside.slots.items v c.remove-slot.result (omega (arith, c.self.invariant.0.slots_length, vl))
    c.remove-slot.ensures.value 0 in
    let put : c.replace.new.numbers ≡ map (λ x. cond (eqb x (c.self.inside.columns - 1)) (slice_index c.self.inside.slots.items v) x)
    (remove c.self.inside.slots.items v) = c.replace.ensures
    ∙ ap (map (λ x. cond (eqb x (c.self.inside.columns - 1)) c.remove-slot.result x)) (c.deref_mut-2.ensures.value ∙ c.remove-slot.ensures.items)
    ∙ ap (λ s. map (λ x. cond (eqb x (c.self.inside.columns - 1)) s x) (remove c.self.inside.slots.items v)) slot in
    let slots = with_items_is c.remove-slot.new.self c.replace.new.numbers
    (ap (λ xs. length xs) put ∙ length-map (remove c.self.inside.slots.items v)
    (λ x. cond (eqb x (c.self.inside.columns - 1)) (slice_index c.self.inside.slots.items v) x)
    ∙ ap (λ xs. length xs) (sym c.remove-slot.ensures.items) ∙ sym c.remove-slot.new.self.ok.0) ∙ put in
    let now : Layout = lists (c.self.inside.columns - 1) _ c.remove.new.self.items
    c.remove-2.new.self.items _ c.self.inside.row_room c.self.inside.column_room in
    let made : now ≡ layout_without_column old v = same-lists (c.self.inside.columns - 1) _ _ _ _ _ _ _ _ _ _ basic
    c.remove.ensures.items c.remove-2.ensures.items slots in (
      subst IsLayout (sym made) (column-gone-laid old v c.self.invariant.0 vl
          (subst (λ (l : Layout). (layout_places l).is_unit v ≡ false) (sym c.self.view_is) c.requires.other)),
      has-room old now _ _ _ _ _ _ _ _ c.self.invariant.1 refl refl (omega arith)
          (omega (arith, c.remove.ensures.capacity)) (omega (arith, c.remove-2.ensures.capacity)) (omega (arith, c.remove-slot.ensures.capacity)),
    )

pub returns : goal.returns
returns c =
    let v = c.args.v in
    let old : Layout = lists c.self.inside.columns c.self.inside.basic.items c.self.inside.units.items c.self.inside.rows.items
    c.self.inside.slots.items c.self.inside.row_room c.self.inside.column_room in
    let is : c.lower.new.numbers ≡ map (unskip v) c.self.inside.basic.items =
    c.lower.ensures ∙ ap (map (unskip v)) c.deref_mut.ensures.value in
    let basic = with_items_is c.self.inside.basic c.lower.new.numbers
    (ap (λ xs. length xs) is ∙ length-map c.self.inside.basic.items (unskip v) ∙ sym c.self.inside.basic.ok.0) ∙ is in
    let vl : v < all old = subst (λ (l : Layout). v < all l) (sym c.self.view_is) c.requires.column in
    let slot : c.remove-slot.result ≡ slice_index c.self.inside.slots.items v =
    get_or_read c.self.inside.slots.items v c.remove-slot.result (omega (arith, c.self.invariant.0.slots_length, vl))
    c.remove-slot.ensures.value 0 in
    let put : c.replace.new.numbers ≡ map (λ x. cond (eqb x (c.self.inside.columns - 1)) (slice_index c.self.inside.slots.items v) x)
    (remove c.self.inside.slots.items v) = c.replace.ensures
    ∙ ap (map (λ x. cond (eqb x (c.self.inside.columns - 1)) c.remove-slot.result x)) (c.deref_mut-2.ensures.value ∙ c.remove-slot.ensures.items)
    ∙ ap (λ s. map (λ x. cond (eqb x (c.self.inside.columns - 1)) s x) (remove c.self.inside.slots.items v)) slot in
    let slots = with_items_is c.remove-slot.new.self c.replace.new.numbers
    (ap (λ xs. length xs) put ∙ length-map (remove c.self.inside.slots.items v)
    (λ x. cond (eqb x (c.self.inside.columns - 1)) (slice_index c.self.inside.slots.items v) x)
    ∙ ap (λ xs. length xs) (sym c.remove-slot.ensures.items) ∙ sym c.remove-slot.new.self.ok.0) ∙ put in
    let now : Layout = lists (c.self.inside.columns - 1) _ c.remove.new.self.items
    c.remove-2.new.self.items _ c.self.inside.row_room c.self.inside.column_room in
    let made : now ≡ layout_without_column old v = same-lists (c.self.inside.columns - 1) _ _ _ _ _ _ _ _ _ _ basic
    c.remove.ensures.items c.remove-2.ensures.items slots in
    made ∙ ap (λ l. layout_without_column l v) c.self.view_is
