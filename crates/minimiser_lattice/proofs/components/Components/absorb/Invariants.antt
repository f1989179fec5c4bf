use Rattle.std.proofs.Common.{◌≡◌, ◌-◌, ◌^◌, ℕ, ◌<◌, true}
use Rattle.bit_table.specs.Bits.{bit_in}
use Rattle.minimiser_lattice.specs.Components.{HasArrays, component_places, path_state}
use Rattle.minimiser_lattice.proofs.CloseLaws.{IsAbsorbing}
use Rattle.minimiser_lattice.proofs.components.Components.absorb.Given as goal

abbrev pub invariant-loop-to : goal.invariant-loop-to
invariant-loop-to g l = record {
  stored : HasArrays l.self;
  kept : l.self ≡ record l.fn.self { strict = l.self.strict };
  fits : l.from < 2 ^ 64;
  absorbing : IsAbsorbing (g.A.Arcs.leads l.arcs) (g.A.Arcs.turn l.arcs) (component_places l.fn.self) (path_state l.self) l.place l.from;
  row : (y : ℕ) → y < component_places l.fn.self → bit_in l.fn.self.strict l.fn.self.count y ≡ true → bit_in l.self.strict l.fn.self.count y ≡ true;
}

abbrev pub decreases-loop-to : goal.decreases-loop-to
decreases-loop-to g l = 2 ^ 64 - l.from
