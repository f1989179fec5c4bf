use Rattle.std.proofs.Common.{◌≡◌, true}
use Rattle.part_rules.specs.Listed.{marked}
use Rattle.solve_plan.specs.Marks.{AreMembersOf}
use Rattle.solve_plan.proofs.marking.put_run.Given as goal

abbrev pub invariant-loop-i : goal.invariant-loop-i
invariant-loop-i l = AreMembersOf l.i (λ i. marked l.marks i ≡ true) l.list.items
