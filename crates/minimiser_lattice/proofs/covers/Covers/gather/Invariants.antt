use Rattle.std.proofs.Common.{◌≡◌, ◌-◌, ◌≤◌}
use Rattle.bit_table.specs.Bits.{bit_in}
use Rattle.minimiser_lattice.specs.Components.{component_places}
use Rattle.minimiser_lattice.specs.Covers.{HasCoverRoom, IsGathered, lower_count}
use Rattle.minimiser_lattice.proofs.covers.Covers.gather.Given as goal

abbrev pub invariant-loop-m : goal.invariant-loop-m
invariant-loop-m l = record {
  room : HasCoverRoom l.self (component_places l.components);
  kept : l.self ≡ record l.fn.self { lower = l.self.lower };
  fits : l.filled ≤ l.from;
  within : l.from ≤ l.l;
  gathered : IsGathered (bit_in l.components.strict) l.l l.from (lower_count l.self) l.filled;
}

abbrev pub decreases-loop-m : goal.decreases-loop-m
decreases-loop-m l = l.l - l.from
