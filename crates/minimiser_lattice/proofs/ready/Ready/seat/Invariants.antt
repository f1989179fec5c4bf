use Rattle.std.proofs.Common.{◌≡◌, ℕ, ◌<◌, ◌≤◌}
use Rattle.minimiser_lattice.specs.Components.{component_number, component_places}
use Rattle.minimiser_lattice.specs.Ready.{HasRoomFor, least_of}
use Rattle.minimiser_lattice.proofs.ready.Ready.seat.Given as goal

abbrev pub invariant-loop-place : goal.invariant-loop-place
invariant-loop-place l = record {
  room : HasRoomFor l.self (component_places l.components);
  kept : l.self ≡ record l.fn.self { least = l.self.least };
  within : l.place ≤ component_places l.components;
  least : (x : ℕ) → l.place ≤ x → x < component_places l.components → least_of l.self (component_number l.components x) ≤ x;
  has : (x : ℕ) → l.place ≤ x → x < component_places l.components →
      component_number l.components (least_of l.self (component_number l.components x)) ≡ component_number l.components x;
}

abbrev pub decreases-loop-place : goal.decreases-loop-place
decreases-loop-place l = l.place
