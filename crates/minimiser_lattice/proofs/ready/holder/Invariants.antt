use Rattle.std.proofs.Common.{◌≤◌, ◌-◌}
use Rattle.bit_table.specs.Bits.{bit_in}
use Rattle.minimiser_lattice.specs.Standings.{NoneWaitsBelow, standing_in}
use Rattle.minimiser_lattice.proofs.ready.holder.Given as goal

abbrev pub invariant-loop-l : goal.invariant-loop-l
invariant-loop-l l = record {
  from : l.from ≤ l.at;
  none : NoneWaitsBelow (bit_in l.components.strict) (standing_in l.standing) l.k l.at;
}

abbrev pub decreases-loop-l : goal.decreases-loop-l
decreases-loop-l l = l.k - l.at
