use Rattle.std.proofs.Common.{◌≡◌, ◌-◌, ◌<◌, ◌∙◌, length, map, take, slice_index, slice_index_or, slice_set, ap, refl, sym, subst, arith}
use Rattle.std.proofs.lemmas.List.{get_or_default, get_or_read, length-map, with_items_is}
use Rattle.std.specs.List.{remove, swap_remove}
use Rattle.linear_algebra.specs.Parts.{unskip}
use Rattle.row_table.specs.Layouts.{Layout, IsLayout, layout_without_row, rows_of_layout}
use Rattle.row_table.proofs.LayoutEdits.{has-room, lists, row-gone-laid, same-lists}
use Rattle.row_table.proofs.layout.Placement.remove_row.Goals as goal

pub invariant_of-self : goal.invariant_of-self
invariant_of-self c =
    let k = c.args.k in
    let old : Layout = lists c.self.inside.columns c.self.inside.basic.items c.self.inside.units.items c.self.inside.rows.items
    c.self.inside.slots.items c.self.inside.row_room c.self.inside.column_room in
    let kl : k < rows_of_layout old = subst (λ (l : Layout). k < rows_of_layout l) (sym c.self.view_is) c.requires in
    let last-low : length c.self.inside.basic.items - 1 < length c.self.inside.basic.items = omega (arith, kl) in
    let gone : c.swap_remove-v.result ≡ slice_index c.self.inside.basic.items k =
    get_or_read c.self.inside.basic.items k c.swap_remove-v.result kl c.swap_remove-v.ensures.value 0 in
    let at : c.len.result - 1 ≡ length c.self.inside.basic.items - 1 = omega (arith, c.len.ensures, c.self.inside.basic.ok.0) in
    let last : c.index-last.result.now ≡ slice_index c.self.inside.basic.items (length c.self.inside.basic.items - 1) =
    get_or_read c.self.inside.basic.items _ c.index-last.result.now last-low
    (c.index-last.ensures ∙ ap (λ x. slice_index_or c.self.inside.basic.items x c.index-last.result.now) at) 0 in
    let swapped : c.swap_remove-v.new.self.items ≡ swap_remove c.self.inside.basic.items k 0 =
    c.swap_remove-v.ensures.items
    ∙ ap (λ x. take (length c.self.inside.basic.items - 1) (slice_set c.self.inside.basic.items k x))
    (get_or_default c.self.inside.basic.items (length c.self.inside.basic.items - 1) c.swap_remove-v.result 0 last-low) in
    let is : c.lower.new.numbers ≡ map (unskip (slice_index c.self.inside.basic.items k)) (swap_remove c.self.inside.basic.items k 0) =
    c.lower.ensures ∙ ap (map (unskip c.swap_remove-v.result)) (c.deref_mut.ensures.value ∙ swapped)
    ∙ ap (λ v. map (unskip v) (swap_remove c.self.inside.basic.items k 0)) gone in
    let basic = with_items_is c.swap_remove-v.new.self c.lower.new.numbers
    (ap (λ xs. length xs) is ∙ length-map (swap_remove c.self.inside.basic.items k 0) (unskip (slice_index c.self.inside.basic.items k))
    ∙ ap (λ xs. length xs) (sym swapped) ∙ sym c.swap_remove-v.new.self.ok.0) ∙ is in
    let rows : c.remove-2.new.self.items ≡ remove (slice_set c.self.inside.rows.items
    (slice_index c.self.inside.basic.items (length c.self.inside.basic.items - 1)) k) (slice_index c.self.inside.basic.items k) =
    c.remove-2.ensures.items ∙ ap (λ x. remove (slice_set c.self.inside.rows.items x k) c.swap_remove-v.result) last
    ∙ ap (remove (slice_set c.self.inside.rows.items
    (slice_index c.self.inside.basic.items (length c.self.inside.basic.items - 1)) k)) gone in
    let now : Layout = lists c.self.inside.columns _ c.remove.new.self.items
    c.remove-2.new.self.items c.remove-3.new.self.items c.self.inside.row_room c.self.inside.column_room in
    let made : now ≡ layout_without_row old k = same-lists c.self.inside.columns _ _ _ _ _ _ _ _ _ _ basic
    (c.remove.ensures.items ∙ ap (remove c.self.inside.units.items) gone) rows
    (c.remove-3.ensures.items ∙ ap (remove c.self.inside.slots.items) gone) in (
      subst IsLayout (sym made) (row-gone-laid old k c.self.invariant.0 kl),
      has-room old now _ _ _ _ _ _ _ _ c.self.invariant.1 refl refl (omega (arith, c.swap_remove-v.ensures.capacity))
          (omega (arith, c.remove.ensures.capacity)) (omega (arith, c.remove-2.ensures.capacity)) (omega (arith, c.remove-3.ensures.capacity)),
    )
