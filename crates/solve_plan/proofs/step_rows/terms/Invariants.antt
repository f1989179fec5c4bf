use Rattle.std.proofs.Common.{◌≡◌, take}
use Rattle.solve_plan.specs.PlanSteps.{step_terms}
use Rattle.solve_plan.proofs.step_rows.terms.Given as goal

abbrev pub invariant-loop-entry : goal.invariant-loop-entry
invariant-loop-entry g l = l.terms.items ≡ step_terms l.layered.q_origins (take l.entry-index l.entries)
