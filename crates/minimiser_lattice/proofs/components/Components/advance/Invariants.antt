use Rattle.std.proofs.Common.{◌≡◌, ◌-◌, ◌<◌, ◌^◌}
use Rattle.minimiser_lattice.specs.Components.{HasArrays, component_places, path_state}
use Rattle.minimiser_lattice.proofs.PathLaws.{IsAdvancing}
use Rattle.minimiser_lattice.proofs.components.Components.advance.Given as goal

abbrev pub invariant-loop-to : goal.invariant-loop-to
invariant-loop-to g l = record {
  stored : HasArrays l.self;
  seen : l.self.seen ≡ l.fn.self.seen;
  depth : l.self.depth ≡ l.fn.self.depth;
  fits : l.from < 2 ^ 64;
  advancing : IsAdvancing (g.A.Arcs.leads l.arcs) (g.A.Arcs.turn l.arcs) (component_places l.fn.self) (path_state l.self) l.place l.from;
}

abbrev pub decreases-loop-to : goal.decreases-loop-to
decreases-loop-to g l = 2 ^ 64 - l.from
