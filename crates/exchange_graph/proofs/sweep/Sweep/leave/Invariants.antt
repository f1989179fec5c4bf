use Rattle.std.proofs.Common.{◌≡◌, ◌<◌, ◌≤◌, ℕ, true, vec_len}
use Rattle.exchange_graph.specs.Scans.{position_of}
use Rattle.exchange_graph.specs.SweepStates.{left_by, sweep_places}
use Rattle.exchange_graph.proofs.sweep.Sweep.leave.Given as goal

abbrev pub invariant-loop-at : goal.invariant-loop-at
invariant-loop-at l = record {
  kept : l.self ≡ record l.fn.self { left = l.self.left };
  marks : vec_len l.self.left ≡ sweep_places l.fn.self;
  here : (y : ℕ) → y < sweep_places l.fn.self → position_of l.fn.self.scan y < l.at → left_by l.self y ≡ true;
  others : (y : ℕ) → y < sweep_places l.fn.self → l.at ≤ position_of l.fn.self.scan y →
      left_by l.self y ≡ left_by l.fn.self y;
}
