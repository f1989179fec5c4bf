use Rattle.std.proofs.Common.{◌≡◌, ℕ, ◌+◌, ◌<◌, ◌≤◌, slice_index}
use Rattle.exchange_graph.specs.Scans.{IsScan, scan_places, walk_of}
use Rattle.exchange_graph.proofs.scan.Scan.trace.Given as goal

abbrev pub invariant-loop-at : goal.invariant-loop-at
invariant-loop-at l = record {
  stored : IsScan l.self;
  kept : l.self ≡ record l.fn.self { walk = l.self.walk };
  at_le : l.at ≤ l.depth;
  here : walk_of l.self l.at ≡ l.place;
  below : l.place < scan_places l.fn.self;
  last : walk_of l.self l.depth ≡ l.end;
  back : (i : ℕ) → l.at ≤ i → i < l.depth → walk_of l.self i ≡ slice_index l.fn.self.before.items (walk_of l.self (i + 1));
}

abbrev pub decreases-loop-at : goal.decreases-loop-at
decreases-loop-at l = l.at
