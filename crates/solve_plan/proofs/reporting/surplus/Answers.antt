use Rattle.std.proofs.Common.{rules, ◌≡◌, List, Bool, true, false, length, replicate, slice_index, ap, sym, subst, ◌∙◌}
use Rattle.std.proofs.lemmas.List.{length-replicate}
use Rattle.std.proofs.lemmas.Result.{IfOk-weaker}
use Rattle.cert_text.specs.declared.part.CcfPart.{CcfPart}
use Rattle.part_arcs.proofs.Gathered.{back}
use Rattle.part_rules.specs.Listed.{marked}
use Rattle.solve_plan.specs.Marks.{AreMembersOf, Marks, OfSome}
use Rattle.solve_plan.specs.Surplus.{IsOfLast, IsToldSurplus}
use Rattle.solve_plan.proofs.ReportLaws.{equations-told}
use Rattle.solve_plan.proofs.reporting.surplus.Goals as goal

pub returns : goal.returns
returns g c =
    let layers = c.args.layered.now in
    let form = c.args.form.now in
    let n = c.shape-equations.result.equations in
    let symbols = c.in_ok-symbols.symbols.items in
    let used = c.in_ok-used.used.items in
    let none = c.deref_mut.result.now in
    let first = c.mark_symbols.new.marks in
    let marks = c.mark_constants.new.marks in
    let size : n ≡ form.shape.equations = ap (λ s. s.equations) c.shape-equations.ensures.shape in
    let start : none ≡ replicate n false = c.deref_mut.ensures.value ∙ c.in_ok-marks.ensures.items_if_clones_equal (λ y. search rules) in
    let long : c.in_ok-marks.marks.len ≡ length none = c.in_ok-marks.ensures.len ∙ sym (ap length start ∙ length-replicate n false) in
    let middle : c.deref_mut-2.result.now ≡ first = c.deref_mut-2.ensures.value ∙ back c.in_ok-marks.marks.len first none _ long c.mark_symbols.ensures.count in
    let end : c.deref-3.result.now ≡ marks = c.deref-3.ensures.value
    ∙ back c.in_ok-marks.marks.len marks none _ long (c.mark_constants.ensures.count ∙ ap length middle
    ∙ c.mark_symbols.ensures.count) in
    let rows : c.as_slice.result.now ≡ form.last.t_rows = c.as_slice.ensures ∙ ap (λ (part : CcfPart). part.t_rows) c.last.ensures.last in
    let one : Marks (IsOfLast layers form) none first =
    subst (λ list. Marks (OfSome (length list) (λ k x. slice_index layers.t_origins (slice_index list k) ≡ x)) none first) rows c.mark_symbols.ensures in
    let Made : List Bool → List Bool → List Bool → Type 0 =
    λ u s old. Marks (OfSome (length u) (λ e x. (slice_index layers.q_origins e ≡ x) × (marked u e ≡ true) × (marked s x ≡ false))) old marks in
    let two : Made used symbols first = subst (λ u. Made u symbols first) c.deref.ensures.value
    (subst (λ s. Made c.deref.result.now s first) c.deref-2.ensures.value
    (subst (λ old. Made c.deref.result.now c.deref-2.result.now old) middle c.mark_constants.ensures)) in
    IfOk-weaker c.listed.result _ _ (λ list told. subst (λ m. AreMembersOf m (IsToldSurplus layers form) list.items) size
    (equations-told layers form n symbols used none first marks c.requires.q_rows c.in_ok-symbols.ensures c.in_ok-used.ensures start one two list.items
    (subst (λ l. AreMembersOf n (λ i. marked l i ≡ true) list.items) end told))) c.listed.ensures
