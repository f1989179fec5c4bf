use Rattle.std.proofs.Common.{◌≡◌, ℕ, ◌<◌, ◌≤◌, true}
use Rattle.exchange_graph.specs.Marks.{members_of}
use Rattle.minimiser_lattice.specs.Components.{HasArrays, component_places, component_number, path_state}
use Rattle.minimiser_lattice.specs.Paths.{Closes, IsNumbered, IsToldOf}
use Rattle.minimiser_lattice.proofs.components.Components.close.Given as goal

abbrev pub invariant-loop-position : goal.invariant-loop-position
invariant-loop-position g l = record {
  stored : HasArrays l.self;
  kept : l.self ≡ record l.fn.self { done = l.self.done; number = l.self.number; strict = l.self.strict };
  numbered : IsNumbered (path_state l.fn.self) (members_of l.self.done.items) (component_number l.self) l.from;
  closing : Closes (g.A.Arcs.leads l.arcs) (component_places l.fn.self) (path_state l.self);
  told : (p y : ℕ) → l.from ≤ p → p < l.position → y < component_places l.fn.self →
      g.A.Arcs.leads l.arcs ((path_state l.self).stack p) y ≡ true → IsToldOf (path_state l.self) y;
}
