use Rattle.std.proofs.Common.{◌≡◌, ◌∙◌, length, map, ap, subst, sym, arith}
use Rattle.mixed_model.specs.Models.{MixedModel, mixed_matrix_of}
use Rattle.value_list_laws.proofs.Runs.{in-order_start}
use Rattle.value_lists.specs.Fixing.{IsFixedTo}
use Rattle.value_lists.specs.Listing.{IsListedTo}
use Rattle.value_lists.proofs.Steps.{listed-start}
use Rattle.value_lists.proofs.Tests.{listed-answered}
use Rattle.value_lists.proofs.values.list_rows.Goals as goal

pub loop-i-init : goal.loop-i-init
loop-i-init g c =
    let p = g.F.Field.modulus in
    let M = mixed_matrix_of c.args.model.now in
    let same = c.requires.same in (
      ap (λ (m : MixedModel). m.equations) same,
      ap (λ (m : MixedModel). m.unknowns) same,
      λ v V. record {
        fixed = subst (λ (m : MixedModel). IsFixedTo p M v 0 0 (mixed_matrix_of m)) (sym same) (in-order_start p M v);
        listed = subst (IsListedTo M v 0 0) (sym (ap (map g.F.Field.number) c.new-values.ensures.items)) (listed-start M v);
      },
    )

pub loop-i-preserved : goal.loop-i-preserved
loop-i-preserved g c =
    let goes = c.in_ok-list_equation.ensures in (
      goes.equations ∙ c.loop-i.invariant.0,
      goes.unknowns ∙ c.loop-i.invariant.1,
      λ v V. goes.listed v V (c.loop-i.invariant.2 v V),
    )

pub returns : goal.returns
returns g c =
    let p = g.F.Field.modulus in
    let M = mixed_matrix_of c.args.model.now in
    let list = map g.F.Field.number c.loop-i.values.items in
    let end : c.loop-i.i ≡ length c.args.model.now.equations = omega (arith, c.loop-i-test.false, c.loop-i.auto.i-end, c.equations-i-end.ensures.count) in
    listed-answered p g.met.F.Field.prime M list (λ v V. subst (λ n. IsListedTo M v n 0 list) end (c.loop-i.invariant.2 v V).listed)
