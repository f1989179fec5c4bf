use Rattle.std.proofs.Common.{◌≡◌, drop}
use Rattle.solve_plan.specs.PlanSteps.{AddsSteps, block_steps}
use Rattle.solve_plan.proofs.planning.put_blocks.Given as goal

abbrev pub invariant-loop-k : goal.invariant-loop-k
invariant-loop-k g l = record {
  steps : AddsSteps g.F.Field.number l.layered l.form (block_steps l.k (drop l.k l.form.blocks)) l.fn.steps.items l.steps.items;
  clear : l.marks ≡ l.fn.marks;
}
