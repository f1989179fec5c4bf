use Rattle.std.proofs.Common.{◌∙◌, ◌<◌, List, ℕ, length, ap, refl, subst, sym, arith}
use Rattle.mixed_model.specs.Models.{MixedModel, mixed_matrix_of}
use Rattle.value_list_laws.proofs.Runs.{in-order_start}
use Rattle.value_lists.specs.Fixing.{AreSymbolColumns, IsFixedTo}
use Rattle.value_lists.proofs.Numbers.{all-below}
use Rattle.value_lists.proofs.fixing.with_ones.Goals as goal

pub loop-i-init : goal.loop-i-init
loop-i-init g c =
    let same = c.in_ok-ones.ensures.same in
    let M = mixed_matrix_of c.args.model.now in (
      ap (λ (m : MixedModel). m.equations) same,
      ap (λ (m : MixedModel). m.unknowns) same,
      subst (λ (m : MixedModel). IsFixedTo g.F.Field.modulus M (λ _ _. 1) 0 0 (mixed_matrix_of m)) (sym same)
          (in-order_start g.F.Field.modulus M (λ _ _. 1)),
    )

pub fix_ones-requires-clause-columns : goal.fix_ones-requires-clause-columns
fix_ones-requires-clause-columns g c = all-below (length c.args.model.now.unknowns) _ c.in_ok-columns.columns.items c.deref.result.now
    (length c.loop-i.ones.unknowns) c.in_ok-columns.ensures c.deref.ensures.value
    (ap (λ (names : List (List ℕ)). length names) c.loop-i.invariant.1)

pub loop-i-preserved : goal.loop-i-preserved
loop-i-preserved g c =
    let fixes = c.in_ok-fix_ones.ensures in
    let M = mixed_matrix_of c.args.model.now in
    let il : c.loop-i.i < length c.args.model.now.equations = omega (arith, c.loop-i-test.true, c.equations-i-end.ensures.count) in
    let are = subst (AreSymbolColumns M c.loop-i.i) (sym c.deref.ensures.value) c.in_ok-columns.ensures in (
      fixes.same.equations ∙ c.loop-i.invariant.0,
      fixes.same.unknowns ∙ c.loop-i.invariant.1,
      fixes.fixes M (λ _ _. 1) il are (λ _ _. refl) c.loop-i.invariant.2,
    )
