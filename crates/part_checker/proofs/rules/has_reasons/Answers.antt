use Rattle.std.proofs.Common.{◌∙◌, length, slice_index}
use Rattle.std.proofs.lemmas.Result.{IfOk-weaker}
use Rattle.part_checker.proofs.RuleLaws.{reasons-told}
use Rattle.part_checker.proofs.Views.{searched-as}
use Rattle.part_checker.proofs.rules.has_reasons.Goals as goal

pub returns : goal.returns
returns g c =
    let p = g.F.Field.modulus in
    let form = c.args.form.now in
    let parts = c.args.parts.now in
    let told = c.args.told.now in
    IfOk-weaker c.are_met.result _ _ (λ answer S L P R. reasons-told p form c.blocks-2.ensures.ccf parts c.requires.parts told c.requires.told L P R answer
    (searched-as c.deref.result.now told.arcs.arcs.items c.deref-2.result.now told.arcs.free.items c.deref-3.result.now
    told.arcs.ends.items (length parts) (slice_index parts) c.deref-4.result.now told.heads.items
    (length form.blocks) answer
    c.deref.ensures.value c.deref-2.ensures.value c.deref-3.ensures.value c.deref-4.ensures.value
    (c.deref-4.ensures.len ∙ c.requires.told.head_count) S)) c.are_met.ensures
