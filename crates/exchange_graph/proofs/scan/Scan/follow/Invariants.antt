use Rattle.std.proofs.Common.{◌≡◌, ◌+◌, ◌-◌, ℕ, Bool}
use Rattle.search_laws.specs.Searches.{IsSearch, HasStarts, NoEndBefore}
use Rattle.exchange_graph.specs.Counts.{counted_on}
use Rattle.exchange_graph.specs.Marks.{members_of}
use Rattle.exchange_graph.specs.Scans.{IsScan, scan_places, scan_state}
use Rattle.exchange_graph.proofs.scan.Scan.follow.Given as goal

abbrev pub invariant-loop-head : goal.invariant-loop-head
invariant-loop-head g l = record {
  stored : IsScan l.self;
  same_places : scan_places l.self ≡ scan_places l.fn.self;
  search : IsSearch (g.A.Arcs.leads l.arcs) (scan_places l.fn.self) (scan_state l.self) l.head l.self.filled;
  starts : (starts : ℕ → Bool) → HasStarts (scan_places l.fn.self) starts (scan_state l.fn.self) →
      HasStarts (scan_places l.fn.self) starts (scan_state l.self);
  none : NoEndBefore (members_of l.ends) (scan_state l.self) l.head;
  same_walk : l.self.walk ≡ l.fn.self.walk;
  counted : l.self.all_looks ≡ counted_on l.fn.self.all_looks l.head;
  ticked : l.steps ≡ l.fn.steps + l.head;
}

abbrev pub decreases-loop-head : goal.decreases-loop-head
decreases-loop-head g l = scan_places l.fn.self - l.head
