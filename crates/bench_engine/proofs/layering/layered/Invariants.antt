use Rattle.std.proofs.Common.{◌≡◌}
use Rattle.bench_engine.proofs.layering.layered.Given as goal

abbrev pub invariant-loop-places : goal.invariant-loop-places
invariant-loop-places l = record {
  q : l.q.width ≡ l.columns;
  t : l.t.width ≡ l.columns;
}
