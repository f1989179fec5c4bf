use Rattle.std.proofs.Common.{◌≡◌, ◌+◌, ◌*◌, ◌-◌, ℕ, true}
use Rattle.residue_theory.specs.Sums.{size_on}
use Rattle.exchange_graph.specs.Marks.{members_of}
use Rattle.minimiser_lattice.specs.Components.{HasArrays, component_places, path_state}
use Rattle.minimiser_lattice.specs.Paths.{IsGoing}
use Rattle.minimiser_lattice.proofs.components.Components.explore.Given as goal

abbrev pub invariant-loop-self : goal.invariant-loop-self
invariant-loop-self g l = record {
  stored : HasArrays l.self;
  same_places : component_places l.self ≡ component_places l.fn.self;
  going : IsGoing (g.A.Arcs.leads l.arcs) (g.A.Arcs.turn l.arcs) (component_places l.fn.self) (path_state l.self);
  seen : (y : ℕ) → members_of l.fn.self.seen.items y ≡ true → members_of l.self.seen.items y ≡ true;
}

abbrev pub decreases-loop-self : goal.decreases-loop-self
decreases-loop-self g l = 2 * (component_places l.fn.self - size_on (members_of l.self.seen.items) (component_places l.fn.self)) + l.self.depth
