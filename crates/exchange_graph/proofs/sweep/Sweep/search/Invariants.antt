use Rattle.std.proofs.Common.{◌≡◌, ◌+◌, ◌<◌, ℕ, true}
use Rattle.exchange_graph.specs.Counts.{counted_on}
use Rattle.exchange_graph.specs.Marks.{members_of}
use Rattle.exchange_graph.specs.SweepStates.{IsSweeping, left_by, sweep_places}
use Rattle.exchange_graph.proofs.sweep.Sweep.search.Given as goal

abbrev pub invariant-loop-start : goal.invariant-loop-start
invariant-loop-start g l = record {
  sweeping : IsSweeping (g.A.Arcs.leads l.arcs) (sweep_places l.fn.self) (members_of l.starts) (members_of l.ends)
      (left_by l.fn.self) l.self;
  held : (x : ℕ) → x < sweep_places l.fn.self → x < l.start → members_of l.starts x ≡ true → left_by l.self x ≡ true;
  walk : l.self.scan.walk ≡ l.fn.self.scan.walk;
  told : l.steps ≡ l.fn.steps + l.self.scan.looks;
  counted : l.self.scan.all_looks ≡ counted_on l.fn.self.scan.all_looks l.self.scan.looks;
}
