use Rattle.std.proofs.Common.{◌≡◌, ◌<◌, ◌+◌, ap, length, map, slice_index, subst, sym, ◌∙◌}
use Rattle.std.proofs.lemmas.List.{get_or-map, map_push}
use Rattle.std.proofs.lemmas.Option.{get_or_from_slice_get, slice_get_within}
use Rattle.block_solver.specs.Numbers.{AreSidesAt}
use Rattle.block_solver.proofs.SymbolNumbers.{sides-next}
use Rattle.block_solver.proofs.numbers.t_sides_of.Goals as goal

pub loop-row-preserved : goal.loop-row-preserved
loop-row-preserved g c =
    let number = g.F.Field.number in
    let origins = c.args.layered.now.t_origins in
    let right = c.args.rest.now in
    let row = c.loop-row.row in
    let sides = c.loop-row.sides.items in
    let e = c.t_origin.result in
    let v = c.index-rest-t_origin.result in
    let at : slice_index origins row ≡ e = get_or_from_slice_get origins row e 0 c.t_origin.ensures in
    let low : e < length right = subst (λ i. i < length right) at (c.requires row 0 (slice_get_within origins row e c.t_origin.ensures)) in
    subst (λ l. AreSidesAt (row + 1) origins (map number right) (map number l)) (sym c.in_ok-push.ensures.items)
    (subst (AreSidesAt (row + 1) origins (map number right)) (sym (map_push number sides v))
    (sides-next row origins (map number right) (map number sides) (number v) c.loop-row.invariant
    (ap number c.index-rest-t_origin.is ∙ sym (get_or-map number right e v 0 low) ∙ ap (slice_index (map number right)) (sym at))))
