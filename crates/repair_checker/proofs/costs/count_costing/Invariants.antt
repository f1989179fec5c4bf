use Rattle.std.proofs.Common.{◌≡◌, ◌≤◌, length, take}
use Rattle.repair_checker.specs.Costs.{costing_of}
use Rattle.repair_checker.proofs.costs.count_costing.Given as goal

abbrev pub invariant-loop-equation : goal.invariant-loop-equation
invariant-loop-equation l =
    (l.count ≡ length (costing_of l.costs l.least (take l.equation-index l.equations))) × (l.count ≤ l.equation-index)
