use Rattle.std.proofs.Common.{◌≡◌, true, false, not, slice_index, add-zero, sym, ◌∙◌, arith}
use Rattle.residue_theory.specs.Sets.{has}
use Rattle.sparse_t.proofs.ListLaws.{has-searched}
use Rattle.equation_matroid_laws.specs.GreedyChoices.{outside}
use Rattle.repair_checker.proofs.CostLists.{other-of, sum-step}
use Rattle.cheapest_repairs.proofs.costs.cost_of_others.Goals as goal
use Rattle.cheapest_repairs.proofs.costs.cost_of_others.Goals.{else-is_err, then-is_err}

pub loop-equation-preserved : goal.loop-equation-preserved
loop-equation-preserved c =
    let k = c.loop-equation.equation-counter in
    let costs = c.args.costs.now in
    let kept = c.args.kept.now in
    let small = c.requires.costs.1.small k in
    let other : not (has kept k) ≡ c.is_err.result = other-of c.binary_search.result c.is_err.result (has kept k) c.is_err.ensures.value
    (has-searched kept k c.binary_search.result c.requires.kept c.binary_search.ensures.position) in
    elim c.if-is_err.branch [
      | then-is_err w ↦ (
        sum-step (outside (has kept)) (slice_index costs) k c.loop-equation.total c.if-is_err.total true (other ∙ w.if-is_err.true)
            c.loop-equation.invariant.0 w.total-is,
        omega (arith, small, w.total-is, c.loop-equation.invariant.1),
      )
      | else-is_err w ↦ (
        sum-step (outside (has kept)) (slice_index costs) k c.loop-equation.total c.if-is_err.total false (other ∙ w.if-is_err.false)
            c.loop-equation.invariant.0 (w.total-is ∙ sym (add-zero c.loop-equation.total)),
        omega (arith, w.total-is, c.loop-equation.invariant.1),
      )
    ]
