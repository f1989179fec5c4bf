use Rattle.std.proofs.Common.{rules, ◌≡◌, ℕ, List, false, length, map, replicate, slice_index, ap, sym, subst, ◌∙◌}
use Rattle.std.proofs.lemmas.List.{length-replicate}
use Rattle.cert_text.specs.declared.part.CcfPart.{CcfPart}
use Rattle.part_arcs.specs.Marking.{first_numbers, row_of_lists}
use Rattle.part_arcs.proofs.Gathered.{back, keys-as, keys-low}
use Rattle.solve_plan.specs.Marks.{AreMarksOf, IsItem, Marks, OfSome}
use Rattle.solve_plan.specs.Surplus.{IsUsedLast}
use Rattle.solve_plan.proofs.MarkSets.{mark-fresh}
use Rattle.solve_plan.proofs.reporting.used_last.Goals as goal

pub mark_rows-requires-clause-rows : goal.mark_rows-requires-clause-rows
mark_rows-requires-clause-rows g c =
    let form = c.args.form.now in
    let size : c.shape.result.q_rows ≡ form.shape.q_rows = ap (λ s. s.q_rows) c.shape.ensures.shape in
    let start : c.deref_mut.result.now ≡ replicate c.shape.result.q_rows false = c.deref_mut.ensures.value
    ∙ c.in_ok-marks.ensures.items_if_clones_equal (λ y. search rules) in
    keys-low g.F.Field.number g.F.Field.modulus form.shape.q_rows form.shape.q_rows
    (length c.deref_mut.result.now) c.as_slice.result.now c.s.result.now form.s c.s.ensures.ccf.s c.as_slice.ensures c.s.ensures.s
    (sym (ap length start ∙ length-replicate c.shape.result.q_rows false ∙ size))

pub returns : goal.returns
returns g c =
    let form = c.args.form.now in
    let n = form.shape.q_rows in
    let none = c.deref_mut.result.now in
    let marks = c.mark_rows.new.marks in
    let size : c.shape.result.q_rows ≡ n = ap (λ s. s.q_rows) c.shape.ensures.shape in
    let start : none ≡ replicate n false = c.deref_mut.ensures.value ∙ c.in_ok-marks.ensures.items_if_clones_equal
    (λ y. search rules) ∙ ap (λ m. replicate m false) size in
    let long : c.in_ok-marks.marks.len ≡ length none = c.in_ok-marks.ensures.len ∙ size ∙ sym (ap length start ∙ length-replicate n false) in
    let keys : map first_numbers c.as_slice.result.now ≡ map first_numbers form.s =
    keys-as g.F.Field.number c.as_slice.result.now c.s.result.now form.s c.as_slice.ensures c.s.ensures.s in
    let rows : c.as_slice-tail.result.now ≡ form.last.q_rows = c.as_slice-tail.ensures ∙ ap (λ (part : CcfPart). part.q_rows) c.last.ensures.last in
    let Used : List (List ℕ) → List ℕ → Type 0 = λ matrix list. Marks (OfSome (length list) (λ k. IsItem (row_of_lists matrix (slice_index list k)))) none
    marks in
    let are : Marks (IsUsedLast form) none marks = subst (λ list. Used (map first_numbers form.s) list) rows
    (subst (λ matrix. Used matrix c.as_slice-tail.result.now) keys c.mark_rows.ensures) in
    subst (AreMarksOf n (IsUsedLast form))
    (sym (back c.in_ok-marks.marks.len marks none _ long c.mark_rows.ensures.count))
    (mark-fresh n (IsUsedLast form) none marks start are)
