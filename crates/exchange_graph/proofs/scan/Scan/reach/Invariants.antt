use Rattle.std.proofs.Common.{◌≡◌, ◌-◌}
use Rattle.search_laws.specs.Searches.{IsSearch, HasStarts}
use Rattle.exchange_graph.specs.Counts.{counted_on}
use Rattle.exchange_graph.specs.Marks.{members_of}
use Rattle.exchange_graph.specs.Scans.{IsScan, scan_places, scan_state}
use Rattle.exchange_graph.proofs.scan.Scan.reach.Given as goal

abbrev pub invariant-loop-head : goal.invariant-loop-head
invariant-loop-head g l = record {
  stored : IsScan l.self;
  same_places : scan_places l.self ≡ scan_places l.fn.self;
  same_looks : l.self.looks ≡ l.fn.self.looks;
  same_walk : l.self.walk ≡ l.fn.self.walk;
  counted : l.self.all_looks ≡ counted_on l.fn.self.all_looks l.head;
  search : IsSearch (g.A.Arcs.leads l.arcs) (scan_places l.fn.self) (scan_state l.self) l.head l.self.filled;
  starts : HasStarts (scan_places l.fn.self) (members_of l.starts) (scan_state l.self);
}

abbrev pub decreases-loop-head : goal.decreases-loop-head
decreases-loop-head g l = scan_places l.fn.self - l.head
