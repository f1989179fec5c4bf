use Rattle.std.proofs.Common.{◌<◌, ℕ, length, map, slice_index, ap, subst, sym, ◌∙◌}
use Rattle.std.proofs.lemmas.List.{get_or_default}
use Rattle.part_arcs.proofs.Gathered.{keys-low}
use Rattle.dense_q.specs.Tables.{height}
use Rattle.solve_plan.specs.PlanSteps.{combined_row, row_numbers, step_terms}
use Rattle.solve_plan.specs.declared.steps.StepRow.TheVariants.{Combined}
use Rattle.solve_plan.proofs.StepRows.{mapped-more, row-low, row-numbered, terms-numbers}
use Rattle.solve_plan.proofs.step_rows.put_combined.Goals as goal

pub terms-requires : goal.terms-requires
terms-requires g c =
    let form = c.args.form.now in
    let list = c.args.list.now in
    let row : ℕ = slice_index list c.loop-row.row-index in
    let low : row < length form.s = subst (λ n. row < n) (sym c.s.ensures.ccf.s.count) (c.requires.list c.loop-row.row-index 0 c.loop-row-test.true) in
    row-low g.F.Field.number c.as_slice-s.result.now c.s.result.now form.s c.as_slice-s.ensures c.s.ensures.s row low c.as_slice.result.now
    c.index-s-row.result c.as_slice.ensures c.index-s-row.is
    (height c.args.layered.now.q)
    (keys-low g.F.Field.number g.F.Field.modulus form.shape.q_rows form.shape.q_rows
    (height c.args.layered.now.q) c.as_slice-s.result.now c.s.result.now form.s c.s.ensures.ccf.s
    c.as_slice-s.ensures c.s.ensures.s (sym c.requires.size))

pub loop-row-preserved : goal.loop-row-preserved
loop-row-preserved g c =
    let number = g.F.Field.number in
    let layers = c.args.layered.now in
    let form = c.args.form.now in
    let list = c.args.list.now in
    let k = c.loop-row.row-index in
    let row : ℕ = slice_index list k in
    let kl : k < length list = c.loop-row-test.true in
    let low : row < length form.s = subst (λ n. row < n) (sym c.s.ensures.ccf.s.count) (c.requires.list k 0 kl) in
    let entries = c.as_slice.result.now in
    mapped-more (row_numbers number) (combined_row layers form) _ c.loop-row.rows.items c.push.new.self.items (Combined c.in_ok-terms.terms) list k row
    c.in_ok-push.ensures.items c.loop-row.invariant kl (get_or_default list k 0 row kl)
    (ap Combined (ap (map (λ term. (number term.0, term.1))) c.in_ok-terms.ensures ∙ terms-numbers number layers.q_origins entries
    ∙ ap (step_terms layers.q_origins) (row-numbered number c.as_slice-s.result.now c.s.result.now form.s c.as_slice-s.ensures c.s.ensures.s row low
    entries c.index-s-row.result c.as_slice.ensures c.index-s-row.is)))
