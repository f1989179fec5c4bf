use Rattle.std.proofs.Common.{◌∙◌, ◌<◌, length, map, subst, sym}
use Rattle.residue_theory.proofs.SetLaws.{differ}
use Rattle.mixed_edit_laws.specs.Changes.{IsChanged}
use Rattle.mixed_model.specs.Models.{IsModel, MixedModel, mixed_matrix_of}
use Rattle.model_edit_laws.proofs.Edits.{changed}
use Rattle.value_lists.specs.Fixing.{IsSameBut}
use Rattle.value_lists.proofs.Numbers.{pushed, two-is}
use Rattle.value_lists.proofs.Rows.{same-back, same-then}
use Rattle.value_lists.proofs.Tests.{one-answer, two-answer}
use Rattle.value_lists.proofs.listing.list_place.Goals as goal

pub has_rank-requires : goal.has_rank-requires
has_rank-requires g c =
    let same = c.in_ok-one.ensures.same in
    subst (λ (m : MixedModel). IsChanged (mixed_matrix_of m) (mixed_matrix_of c.fix.new.model) c.args.i) (same ∙ c.model-2.ensures)
    (changed g.F.Field.modulus c.in_ok-one.one c.fix.new.model c.args.i c.in_ok-one.ensures.model
    (subst (λ (m : MixedModel). c.args.i < length m.equations) (sym (same ∙ c.model-2.ensures)) c.requires.equation)
    c.in_ok-fix.ensures.same.edited)

pub returns-then-branch-clause-listed : goal.returns-then-branch-clause-listed
returns-then-branch-clause-listed g c M R here =
    let number = g.F.Field.number in
    one-answer g.F.Field.modulus g.met.F.Field.prime M c.args.rank R c.args.i c.args.j here c.args.held.now.model (map number c.args.values.now.items)
    c.in_ok-one.one c.fix.new.model c.has_rank.new.held.model (map number c.push.new.self.items) (number c.one.result) (number c.one-then-branch.result)
    (c.in_ok-one.ensures.same ∙ c.model-2.ensures) c.in_ok-fix.ensures c.one.ensures (c.in_ok-has_rank.ensures.rank.0 c.if-branch.true)
    c.in_ok-has_rank.ensures.model
    (pushed number c.args.values.now.items c.push.new.self.items c.one-then-branch.result c.in_ok-push.ensures.items) c.one-then-branch.ensures

pub follow-requires : goal.follow-requires
follow-requires g c =
    let p = g.F.Field.modulus in
    let i = c.args.i in
    let old = c.args.held.now.model in
    let one = c.fix.new.model in
    let two = c.fix-2.new.model in
    let tried = subst (λ (m : MixedModel). IsSameBut m one i) (c.in_ok-one.ensures.same ∙ c.model-2.ensures) c.in_ok-fix.ensures.same in
    let put = subst (λ (m : MixedModel). IsSameBut m two i) (c.in_ok-two.ensures.same ∙ c.model.ensures) c.in_ok-fix-2.ensures.same in
    let held = c.in_ok-has_rank.ensures.model in
    let wide = subst (λ (m : MixedModel). i < length m.equations) (sym c.in_ok-one.ensures.same)
    (subst (λ (m : MixedModel). i < length m.equations) (sym c.model-2.ensures) c.requires.equation) in
    changed p c.has_rank.new.held.model two i (subst (IsModel p) c.model-3.ensures c.is_model.ensures)
    (subst (λ (m : MixedModel). i < length m.equations) (sym held)
    (subst (λ names. i < length names) (sym c.in_ok-fix.ensures.same.equations) wide))
    (subst (λ (m : MixedModel). IsSameBut m two i) (sym held) (same-then one old two i (same-back old one i tried) put)).edited

pub returns-clause-listed : goal.returns-clause-listed
returns-clause-listed g c M R here =
    let p = g.F.Field.modulus in
    let number = g.F.Field.number in
    let two = number c.add-number.result in
    let is_two = two-is p (number c.one-3.result) (number c.one-4.result) two g.met.F.Field.odd c.add-number.ensures c.one-3.ensures c.one-4.ensures in
    two-answer p g.met.F.Field.prime M c.args.rank R c.args.i c.args.j here c.args.held.now.model (map number c.args.values.now.items)
    c.in_ok-one.one c.in_ok-two.two c.fix.new.model c.fix-2.new.model c.follow.new.held.model (map number c.push-2.new.self.items)
    (number c.one.result) two (c.in_ok-one.ensures.same ∙ c.model-2.ensures) c.in_ok-fix.ensures c.one.ensures
    (λ S. differ c.if-branch.false (c.in_ok-has_rank.ensures.rank.1 S)) (c.in_ok-two.ensures.same ∙ c.model.ensures) c.in_ok-fix-2.ensures is_two
    c.in_ok-follow.ensures (pushed number c.args.values.now.items c.push-2.new.self.items c.add-number.result c.in_ok-push-2.ensures.items)
