use Rattle.std.proofs.Common.{◌≡◌, ◌+◌, ◌-◌, length, subst, sym, arith}
use Rattle.restricted_models.proofs.Lists.{IsRestricting, begun, kept, removed}
use Rattle.restricted_models.proofs.restriction.restrict.Goals as goal

pub loop-k-init : goal.loop-k-init
loop-k-init g c =
    let model = c.args.model.now in
    let list = c.args.equations.now in
    subst (λ k. IsRestricting model list list k c.in_ok-part.part) (sym c.equations-k.ensures.count)
    (subst (λ part. IsRestricting model list list (length model.equations) part) (sym c.in_ok-part.ensures.same)
    (begun model c.is_model.ensures.one_row_each list c.requires))

pub loop-k-preserved-in-Some : goal.loop-k-preserved-in-Some
loop-k-preserved-in-Some g c =
    let model = c.args.model.now in
    let list = c.args.equations.now in
    let back : c.loop-k.k - 1 + 1 ≡ c.loop-k.k = omega (arith, c.loop-k-test.true) in
    kept model c.is_model.ensures.one_row_each list (c.loop-k.k - 1)
    (omega (arith, c.loop-k-test.true, c.loop-k.auto.k, c.equations-k.ensures.count)) c.loop-k.left.now c.loop-k.part
    (subst (λ k. IsRestricting model list c.loop-k.left.now k c.loop-k.part) (sym back) c.loop-k.invariant)
    c.in-Some.before.now c.in-Some.ensures.some

pub loop-k-preserved : goal.loop-k-preserved
loop-k-preserved g c =
    let model = c.args.model.now in
    let list = c.args.equations.now in
    let back : c.loop-k.k - 1 + 1 ≡ c.loop-k.k = omega (arith, c.loop-k-test.true) in
    subst (λ part. IsRestricting model list c.loop-k.left.now (c.loop-k.k - 1) part) (sym c.remove_equation.ensures.removed)
    (removed model c.is_model.ensures.one_row_each list (c.loop-k.k - 1)
    (omega (arith, c.loop-k-test.true, c.loop-k.auto.k, c.equations-k.ensures.count)) c.loop-k.left.now c.loop-k.part
    (subst (λ k. IsRestricting model list c.loop-k.left.now k c.loop-k.part) (sym back) c.loop-k.invariant)
    c.in-None.ensures.none)
