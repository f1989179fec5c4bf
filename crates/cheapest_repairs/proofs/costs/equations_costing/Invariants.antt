use Rattle.std.proofs.Common.{◌≡◌}
use Rattle.std.specs.List.{range_with_len}
use Rattle.repair_checker.specs.Costs.{costing_of}
use Rattle.cheapest_repairs.proofs.costs.equations_costing.Given as goal

abbrev pub invariant-loop-equation : goal.invariant-loop-equation
invariant-loop-equation l = l.equations.items ≡ costing_of l.costs l.least (range_with_len 0 l.equation)
