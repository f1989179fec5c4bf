use Rattle.std.proofs.Common.{◌∙◌, ◌+◌, ◌<◌, length, map, subst, sym}
use Rattle.mixed_edit_laws.specs.Changes.{IsChanged}
use Rattle.mixed_model.specs.Models.{IsModel, MixedModel, mixed_matrix_of}
use Rattle.model_edit_laws.proofs.Edits.{changed}
use Rattle.value_lists.specs.Fixing.{FixesOnes, IsSameBut}
use Rattle.value_lists.specs.Listing.{GoesOn}
use Rattle.value_lists.proofs.Rows.{same-back}
use Rattle.value_lists.proofs.Tests.{ones-go}
use Rattle.value_lists.proofs.listing.list_columns.Goals as goal

pub has_rank-requires : goal.has_rank-requires
has_rank-requires g c =
    let same = c.in_ok-ones.ensures.same in
    subst (λ (m : MixedModel). IsChanged (mixed_matrix_of m) (mixed_matrix_of c.fix_ones.new.model) c.args.i) (same ∙ c.model-2.ensures)
    (changed g.F.Field.modulus c.in_ok-ones.ones c.fix_ones.new.model c.args.i c.in_ok-ones.ensures.model
    (subst (λ (m : MixedModel). c.args.i < length m.equations) (sym (same ∙ c.model-2.ensures)) c.requires.equation)
    c.in_ok-fix_ones.ensures.same.edited)

pub returns-then-branch-clause-listed : goal.returns-then-branch-clause-listed
returns-then-branch-clause-listed g c M R il are =
    let p = g.F.Field.modulus in
    let number = g.F.Field.number in
    let i = c.args.i in
    let old = c.args.held.now.model in
    let ones = c.fix_ones.new.model in
    let values = map number c.args.values.now.items in
    let now = map number c.list_ones.new.values.items in
    let puts = subst (λ (m : MixedModel). FixesOnes p m ones i c.args.columns.now) (c.in_ok-ones.ensures.same ∙ c.model-2.ensures)
    c.in_ok-fix_ones.ensures in
    let reaches = c.in_ok-has_rank.ensures.rank.0 c.if-branch.true in
    subst (λ (m : MixedModel). GoesOn p M i 0 (i + 1) 0 old m values now) (sym c.in_ok-has_rank.ensures.model)
    (ones-go p g.met.F.Field.prime M c.args.rank R i il c.args.columns.now are old ones values now puts reaches c.in_ok-list_ones.ensures)

pub follow-requires : goal.follow-requires
follow-requires g c =
    let p = g.F.Field.modulus in
    let i = c.args.i in
    let old = c.args.held.now.model in
    let start = c.in_ok-start.start in
    let ones = c.fix_ones.new.model in
    let held = c.in_ok-has_rank.ensures.model in
    let is_old = c.in_ok-ones.ensures.same ∙ c.model-2.ensures in
    let tried = subst (λ (m : MixedModel). IsSameBut m ones i) is_old c.in_ok-fix_ones.ensures.same in
    let back = subst (λ (m : MixedModel). IsSameBut ones m i) (sym (c.in_ok-start.ensures.same ∙ c.model.ensures)) (same-back old ones i tried) in
    let wide = subst (λ names. i < length names) (sym tried.equations) c.requires.equation in
    changed p c.has_rank.new.held.model start i (subst (IsModel p) c.model-3.ensures c.is_model.ensures)
    (subst (λ (m : MixedModel). i < length m.equations) (sym held) wide)
    (subst (λ (m : MixedModel). IsSameBut m start i) (sym held) back).edited

pub returns-clause-listed : goal.returns-clause-listed
returns-clause-listed g c M R il are =
    let is_old = c.in_ok-follow.ensures ∙ c.in_ok-start.ensures.same ∙ c.model.ensures in
    subst (λ (m : MixedModel). GoesOn g.F.Field.modulus M c.args.i 0 (c.args.i + 1) 0 m c.list_places.new.held.model
    (map g.F.Field.number c.args.values.now.items) (map g.F.Field.number c.list_places.new.values.items)) is_old
    (c.in_ok-list_places.ensures.listed M R il are)
