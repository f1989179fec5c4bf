use Rattle.std.proofs.Common.{◌≡◌, ◌<◌, ℕ, length, map, slice_index, slice_index_or, subst, sym, ◌∙◌, arith}
use Rattle.std.specs.List.{All}
use Rattle.part_arcs.specs.Marking.{first_numbers, row_of_lists}
use Rattle.part_arcs.proofs.MarkLaws.{key-given, keys-count, keys-row}
use Rattle.solve_plan.specs.Marks.{IsItem, Marks, OfSome}
use Rattle.solve_plan.proofs.MarkSets.{mark-set}
use Rattle.solve_plan.proofs.marking.mark_row.Goals as goal

pub loop-item-preserved : goal.loop-item-preserved
loop-item-preserved g c =
    let old = c.args.marks.now in
    let items = c.as_slice-items.result.now in
    let list = first_numbers items in
    let k = c.loop-item.item-index in
    let item = c.item-item.result in
    let row = c.index-rows-row.result in
    let same : items ≡ slice_index_or c.args.rows.now c.args.row row = c.as_slice-items.ensures ∙ c.index-rows-row.is in
    let below : All (λ (i : ℕ × g.row.T.Denot). i.0 < length old) items =
    subst (All (λ (i : ℕ × g.row.T.Denot). i.0 < length old)) (sym same)
    (c.requires.rows c.args.row row c.requires.row) in
    let key : slice_index list k ≡ item.0 = key-given items k item c.loop-item-test.true c.item-item.is in
    let low : item.0 < length old = subst (λ i. i.0 < length old) (sym c.item-item.is) (below k item c.loop-item-test.true) in
    mark-set (λ i y. slice_index list i ≡ y) k old c.loop-item.marks item.0 c.loop-item.invariant low key (λ x is. sym key ∙ is)

pub returns : goal.returns
returns g c =
    let old = c.args.marks.now in
    let now = c.loop-item.marks in
    let items = c.as_slice-items.result.now in
    let list = first_numbers items in
    let row : list ≡ row_of_lists (map first_numbers c.args.rows.now) c.args.row =
    keys-row c.args.rows.now c.args.row items c.index-rows-row.result c.requires.row (c.as_slice-items.ensures ∙ c.index-rows-row.is) in
    let count : length list ≡ length items = keys-count items in
    let end : c.loop-item.item-index ≡ length list = omega (arith, count, c.loop-item-test.false, c.loop-item.auto.item-index-end) in
    subst (λ keys. Marks (IsItem keys) old now) row (subst (λ n. Marks (OfSome n (λ k y. slice_index list k ≡ y)) old now) end c.loop-item.invariant)
