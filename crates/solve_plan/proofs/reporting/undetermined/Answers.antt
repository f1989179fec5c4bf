use Rattle.std.proofs.Common.{rules, ◌≡◌, true, false, length, replicate, ap, sym, subst, ◌∙◌}
use Rattle.std.proofs.lemmas.List.{length-replicate}
use Rattle.std.proofs.lemmas.Result.{IfOk-weaker}
use Rattle.cert_text.specs.declared.part.CcfPart.{CcfPart}
use Rattle.part_arcs.proofs.Gathered.{back}
use Rattle.part_rules.specs.Listed.{marked}
use Rattle.solve_plan.specs.Marks.{AreMembersOf, IsItem, Marks}
use Rattle.solve_plan.proofs.ReportLaws.{columns-told}
use Rattle.solve_plan.proofs.reporting.undetermined.Goals as goal

pub returns : goal.returns
returns g c =
    let form = c.args.form.now in
    let n = form.shape.columns in
    let none = c.deref_mut.result.now in
    let marks = c.mark_numbers.new.marks in
    let size : c.shape.result.columns ≡ n = ap (λ s. s.columns) c.shape.ensures.shape in
    let start : none ≡ replicate n false = c.deref_mut.ensures.value ∙ c.in_ok-marks.ensures.items_if_clones_equal
    (λ y. search rules) ∙ ap (λ m. replicate m false) size in
    let long : c.in_ok-marks.marks.len ≡ length none = c.in_ok-marks.ensures.len ∙ size ∙ sym (ap length start ∙ length-replicate n false) in
    let end : c.deref.result.now ≡ marks = c.deref.ensures.value ∙ back c.in_ok-marks.marks.len marks none _ long c.mark_numbers.ensures.count in
    let columns : c.as_slice.result.now ≡ form.first.columns = c.as_slice.ensures ∙ ap (λ (part : CcfPart). part.columns) c.first.ensures.first in
    let are : Marks (IsItem form.first.columns) none marks = subst (λ list. Marks (IsItem list) none marks) columns c.mark_numbers.ensures in
    let unknowns : c.shape-2.result.unknowns ≡ form.shape.unknowns = ap (λ s. s.unknowns) c.shape-2.ensures.shape in
    IfOk-weaker c.listed.result _ _ (λ list told. columns-told form.shape.unknowns n form.first.columns list.items none marks start are
    (subst (λ m. AreMembersOf m (λ i. marked marks i ≡ true) list.items) unknowns
    (subst (λ l. AreMembersOf c.shape-2.result.unknowns (λ i. marked l i ≡ true) list.items) end told))) c.listed.ensures
