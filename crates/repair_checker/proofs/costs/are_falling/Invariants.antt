use Rattle.std.proofs.Common.{◌≤◌}
use Rattle.repair_checker.proofs.Levels.{FallsBelow}
use Rattle.repair_checker.proofs.costs.are_falling.Given as goal

abbrev pub invariant-loop-k : goal.invariant-loop-k
invariant-loop-k g l = FallsBelow l.levels l.k × (1 ≤ l.k)
