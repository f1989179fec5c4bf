use Rattle.std.proofs.Common.{◌≡◌, ◌-◌, ◌<◌, ◌^◌}
use Rattle.exchange_graph.specs.Counts.{counted_on}
use Rattle.exchange_graph.specs.Looks.{IsLookingFrom}
use Rattle.exchange_graph.specs.Scans.{IsScan, scan_places, scan_state}
use Rattle.exchange_graph.proofs.scan.Scan.look.Given as goal

abbrev pub invariant-loop-to : goal.invariant-loop-to
invariant-loop-to g l = record {
  stored : IsScan l.self;
  same_places : scan_places l.self ≡ scan_places l.fn.self;
  same_looks : l.self.looks ≡ l.fn.self.looks;
  same_walk : l.self.walk ≡ l.fn.self.walk;
  counted : l.self.all_looks ≡ counted_on l.fn.self.all_looks 1;
  fits : l.from < 2 ^ 64;
  looking : IsLookingFrom (g.A.Arcs.leads l.arcs) (g.A.Arcs.turn l.arcs) (scan_places l.fn.self) (scan_state l.fn.self) (scan_state l.self)
      l.fn.self.filled l.head l.self.filled l.from l.place l.depth;
}

abbrev pub decreases-loop-to : goal.decreases-loop-to
decreases-loop-to g l = 2 ^ 64 - l.from
