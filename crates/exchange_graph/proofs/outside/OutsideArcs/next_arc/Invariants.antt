use Rattle.std.proofs.Common.{◌≡◌, ◌<◌, ◌≤◌, ◌-◌, ◌^◌, ℕ, true, length, min}
use Rattle.exchange_graph.specs.Marks.{members_of}
use Rattle.search_laws.specs.Outside.{leads_outside}
use Rattle.exchange_graph.proofs.outside.OutsideArcs.next_arc.Given as goal

abbrev pub invariant-loop-y : goal.invariant-loop-y
invariant-loop-y g l = record {
  onward : l.from ≤ l.at;
  fits : l.at < 2 ^ 64;
  passed : (z : ℕ) → z < min (g.A.Arcs.places l.self.arcs.now) (length l.self.left.now) →
      leads_outside (g.A.Arcs.leads l.self.arcs.now) (members_of l.self.left.now) l.x z ≡ true →
      g.A.Arcs.turn l.self.arcs.now l.x z < l.at → g.A.Arcs.turn l.self.arcs.now l.x z < l.from;
}

abbrev pub decreases-loop-y : goal.decreases-loop-y
decreases-loop-y g l = 2 ^ 64 - l.at
