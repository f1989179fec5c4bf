use Rattle.std.proofs.Common.{◌≤◌, ◌-◌}
use Rattle.bench_lattice.proofs.covered_by.Given as goal

abbrev pub invariant-loop-low : goal.invariant-loop-low
invariant-loop-low l = record {
  within : l.from ≤ l.high;
}

abbrev pub decreases-loop-low : goal.decreases-loop-low
decreases-loop-low l = l.high - l.from
