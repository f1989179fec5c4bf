use Rattle.std.proofs.Common.{◌≡◌, ◌<◌, false, replicate, slice_index, subst, sym, ◌∙◌}
use Rattle.std.proofs.lemmas.List.{length-replicate}
use Rattle.std.proofs.lemmas.Option.{get_or_from_slice_get, slice_get_within}
use Rattle.solve_plan.proofs.MarkSets.{mark-set}
use Rattle.solve_plan.proofs.equations.with_symbols.Goals as goal

pub loop-row-preserved : goal.loop-row-preserved
loop-row-preserved g c =
    let origins = c.args.layered.now.t_origins in
    let n = c.args.n in
    let row = c.loop-row.row in
    let v = c.t_origin.result in
    let is : slice_index origins row ≡ v = get_or_from_slice_get origins row v 0 c.t_origin.ensures in
    let low : v < n = subst (λ i. i < n) is (c.requires row 0 (slice_get_within origins row v c.t_origin.ensures)) in
    mark-set (λ d y. slice_index origins d ≡ y) row (replicate n false) c.loop-row.marks.items v c.loop-row.invariant
    (subst (λ m. v < m) (sym (length-replicate n false)) low) is (λ x e. sym is ∙ e)
