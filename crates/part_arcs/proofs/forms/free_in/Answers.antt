use Rattle.std.proofs.Common.{rules, ◌≡◌, false, length, replicate, ap, sym, subst, ◌∙◌}
use Rattle.std.proofs.lemmas.List.{length-replicate}
use Rattle.std.proofs.lemmas.Result.{IfOk-weaker}
use Rattle.part_arcs.specs.Marking.{AreOthers, columns_of}
use Rattle.part_arcs.proofs.Gathered.{back, free-form, marked-as}
use Rattle.part_arcs.proofs.forms.free_in.Goals as goal

pub returns : goal.returns
returns g c =
    let form = c.args.form.now in
    let n = form.shape.columns in
    let first = c.mark_columns.new.marks in
    let taken = c.mark_columns-2.new.marks in
    let base = c.as_slice.ensures ∙ c.base.ensures.base in
    let mates = c.as_slice-2.ensures ∙ c.mates.ensures.mates in
    let size : c.shape.result.columns ≡ n = ap (λ s. s.columns) c.shape.ensures.shape in
    let start : c.deref_mut.result.now ≡ replicate n false = c.deref_mut.ensures.value
    ∙ c.in_ok-taken.ensures.items_if_clones_equal (λ y. search rules) ∙ ap (λ m. replicate m false) size in
    let long : c.in_ok-taken.taken.len ≡ length c.deref_mut.result.now = c.in_ok-taken.ensures.len ∙ size ∙ sym (ap length start ∙ length-replicate n false) in
    let middle : c.deref_mut-2.result.now ≡ first = c.deref_mut-2.ensures.value
    ∙ back c.in_ok-taken.taken.len first c.deref_mut.result.now _ long c.mark_columns.ensures.count in
    let end : c.deref.result.now ≡ taken = c.deref.ensures.value
    ∙ back c.in_ok-taken.taken.len taken c.deref_mut.result.now _ long (c.mark_columns-2.ensures.count
    ∙ ap length middle ∙ c.mark_columns.ensures.count) in
    IfOk-weaker c.others.result _ _ (λ free told. free-form form first taken free.items
    (marked-as (columns_of c.as_slice.result.now) (columns_of form.base) (length c.as_slice.result.now)
    (length form.base) c.deref_mut.result.now (replicate n false) first (ap columns_of base)
    (ap length base) start c.mark_columns.ensures)
    (marked-as (columns_of c.as_slice-2.result.now) (columns_of form.mates) (length c.as_slice-2.result.now)
    (length form.mates) c.deref_mut-2.result.now first taken (ap columns_of mates)
    (ap length mates) middle c.mark_columns-2.ensures)
    (subst (λ marks. AreOthers marks (length marks) free.items) end told)) c.others.ensures
