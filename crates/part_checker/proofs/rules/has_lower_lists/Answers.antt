use Rattle.std.proofs.Common.{◌∙◌, ap, length, slice_index}
use Rattle.std.proofs.lemmas.Result.{IfOk-weaker}
use Rattle.residue_theory.proofs.SetLaws.{differ}
use Rattle.part_checker.proofs.RuleLaws.{listed-lists, lists-first, lists-listed}
use Rattle.part_checker.proofs.Views.{covers-as, first-as}
use Rattle.part_checker.proofs.rules.has_lower_lists.Goals as goal

pub returns-then-not-branch : goal.returns-then-not-branch
returns-then-not-branch g c L P R G =
    let p = g.F.Field.modulus in
    let form = c.args.form.now in
    let parts = c.args.parts.now in
    let told = c.args.told.now in
    let view = first-as c.deref.result.now told.lower.items c.deref-2.result.now told.heads.items
    (length form.blocks) c.deref.ensures.value c.deref-2.ensures.value (c.deref-2.ensures.len
    ∙ c.requires.told.head_count) in (
      λ f. absurd (cc),
      λ K. absurd (differ c.if-not-branch.true (c.in_ok-is_least_first.ensures.1
          (view.1 (lists-first p form c.blocks-2.ensures.ccf parts c.requires.parts told c.requires.told L P R G K)))),
    )

pub returns : goal.returns
returns g c =
    let p = g.F.Field.modulus in
    let form = c.args.form.now in
    let parts = c.args.parts.now in
    let told = c.args.told.now in
    let first = first-as c.deref.result.now told.lower.items c.deref-2.result.now told.heads.items
    (length form.blocks) c.deref.ensures.value c.deref-2.ensures.value (c.deref-2.ensures.len
    ∙ c.requires.told.head_count) in
    let view = covers-as c.deref-3.result.now told.arcs.arcs.items (length parts) (slice_index parts)
    (length c.as_slice-blocks.result.now) (length form.blocks) c.deref-4.result.now told.lower.items
    c.deref-3.ensures.value (ap length (c.as_slice-blocks.ensures ∙ c.blocks-2.ensures.blocks))
    c.deref-4.ensures.value in
    IfOk-weaker c.are_covers.result _ _ (λ answer h L P R G. (
      λ x. listed-lists p form c.blocks-2.ensures.ccf parts c.requires.parts told c.requires.told L P R G
          (view.0 (h.0 x)) (first.0 (c.in_ok-is_least_first.ensures.0 c.if-not-branch.false)),
      λ K. h.1 (view.1 (lists-listed p form c.blocks-2.ensures.ccf parts c.requires.parts told c.requires.told L P R G K)),
    )) c.are_covers.ensures
