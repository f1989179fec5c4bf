use Rattle.std.proofs.Common.{◌≡◌, ◌⊎◌, ℕ, ◌<◌, ◌≤◌, false, vec_len}
use Rattle.exchange_graph.specs.Marks.{members_of}
use Rattle.exchange_graph.specs.Scans.{scan_places, position_of}
use Rattle.exchange_graph.proofs.scan.Scan.clear.Given as goal

abbrev pub invariant-loop-at : goal.invariant-loop-at
invariant-loop-at l = record {
  kept : l.self ≡ record l.fn.self { reached = l.self.reached };
  marks : vec_len l.self.reached ≡ scan_places l.fn.self;
  back : (y : ℕ) → y < scan_places l.fn.self → (position_of l.fn.self y < l.at)
      ⊎ (l.fn.self.filled ≤ position_of l.fn.self y) → members_of l.self.reached.items y ≡ false;
}
