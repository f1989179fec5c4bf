use Rattle.std.proofs.Common.{ap, ◌∙◌}
use Rattle.repair_checker.proofs.CostLists.{grows, stays}
use Rattle.cheapest_repairs.proofs.costs.equations_costing.Goals as goal
use Rattle.cheapest_repairs.proofs.costs.equations_costing.Goals.{else-least-cost, then-least-cost+in_ok-push}

pub loop-equation-preserved : goal.loop-equation-preserved
loop-equation-preserved c = elim c.if-least-cost.branch [
  | then-least-cost+in_ok-push w ↦ grows c.args.costs.now c.args.least c.loop-equation.equation c.loop-equation.equations.items
      c.if-least-cost.equations.items c.loop-equation.invariant w.if-least-cost.true
      (ap (λ v. v.items) w.equations-is ∙ w.in_ok-push.ensures.items)
  | else-least-cost w ↦ ap (λ v. v.items) w.equations-is
      ∙ stays c.args.costs.now c.args.least c.loop-equation.equation c.loop-equation.equations.items c.loop-equation.invariant
      w.if-least-cost.false
]
