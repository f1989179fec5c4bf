use Rattle.std.proofs.Common.{◌≡◌, ℕ, ◌<◌, true}
use Rattle.exchange_graph.specs.Marks.{members_of}
use Rattle.minimiser_lattice.specs.Components.{HasArrays, component_places, path_state}
use Rattle.minimiser_lattice.specs.Paths.{IsGoing}
use Rattle.minimiser_lattice.proofs.components.Components.fill.Given as goal

abbrev pub invariant-loop-root : goal.invariant-loop-root
invariant-loop-root g l = record {
  stored : HasArrays l.self;
  same_places : component_places l.self ≡ component_places l.fn.self;
  going : IsGoing (g.A.Arcs.leads l.arcs) (g.A.Arcs.turn l.arcs) (component_places l.fn.self) (path_state l.self);
  depth : l.self.depth ≡ 0;
  seen : (y : ℕ) → y < l.root → members_of l.self.seen.items y ≡ true;
}
