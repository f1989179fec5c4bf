use Rattle.std.proofs.Common.{◌≡◌, take}
use Rattle.problem_heads.specs.Problems.{different}
use Rattle.problem_heads.proofs.costs.count_different.Given as goal

abbrev pub invariant-loop-cost : goal.invariant-loop-cost
invariant-loop-cost l = l.seen.items ≡ different (take l.cost-index l.costs)
