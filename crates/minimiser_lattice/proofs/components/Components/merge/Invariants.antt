use Rattle.std.proofs.Common.{◌≡◌, ◌<◌}
use Rattle.std.proofs.Common.{ℕ, ◌≤◌, slice_index}
use Rattle.minimiser_lattice.proofs.components.Components.merge.Given as goal

abbrev pub invariant-loop-self : goal.invariant-loop-self
invariant-loop-self l = record {
  kept : l.self ≡ record l.fn.self { groups = l.self.groups };
  some : 0 < l.self.groups;
  fewer : l.self.groups ≤ l.fn.self.groups;
  joined : (g : ℕ) → l.self.groups ≤ g → g < l.fn.self.groups → l.at < slice_index l.fn.self.base.items g;
}

abbrev pub decreases-loop-self : goal.decreases-loop-self
decreases-loop-self l = l.self.groups
