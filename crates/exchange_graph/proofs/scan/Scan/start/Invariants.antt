use Rattle.std.proofs.Common.{◌≡◌, ℕ, Bool}
use Rattle.exchange_graph.specs.Marks.{members_of}
use Rattle.exchange_graph.specs.Looks.{IsStartingFrom}
use Rattle.exchange_graph.specs.Scans.{IsScan, scan_places, scan_state}
use Rattle.exchange_graph.proofs.scan.Scan.start.Given as goal

abbrev pub invariant-loop-place : goal.invariant-loop-place
invariant-loop-place l = record {
  stored : IsScan l.self;
  same_places : scan_places l.self ≡ scan_places l.fn.self;
  same_looks : l.self.looks ≡ l.fn.self.looks;
  same_walk : l.self.walk ≡ l.fn.self.walk;
  same_count : l.self.all_looks ≡ l.fn.self.all_looks;
  starting : (arc : ℕ → ℕ → Bool) → IsStartingFrom arc (scan_places l.fn.self) (members_of l.starts) (scan_state l.self) l.self.filled l.place;
}
