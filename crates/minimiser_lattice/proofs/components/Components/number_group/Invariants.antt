use Rattle.std.proofs.Common.{◌≡◌}
use Rattle.exchange_graph.specs.Marks.{members_of}
use Rattle.minimiser_lattice.specs.Components.{HasArrays, component_number, path_state}
use Rattle.minimiser_lattice.specs.Paths.{IsNumberedTo}
use Rattle.minimiser_lattice.proofs.components.Components.number_group.Given as goal

abbrev pub invariant-loop-position : goal.invariant-loop-position
invariant-loop-position l = record {
  stored : HasArrays l.self;
  kept : l.self ≡ record l.fn.self { done = l.self.done; number = l.self.number };
  numbered : IsNumberedTo (path_state l.fn.self) (members_of l.self.done.items) (component_number l.self) l.from l.position;
}
