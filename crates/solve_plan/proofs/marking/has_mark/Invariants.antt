use Rattle.std.proofs.Common.{◌≡◌, ◌↔◌, false}
use Rattle.solve_plan.proofs.MarkSets.{AreClear}
use Rattle.solve_plan.proofs.marking.has_mark.Given as goal

abbrev pub invariant-loop-mark : goal.invariant-loop-mark
invariant-loop-mark l = (l.any ≡ false) ↔ AreClear l.marks l.mark-index
