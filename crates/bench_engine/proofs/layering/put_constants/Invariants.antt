use Rattle.std.proofs.Common.{◌≡◌}
use Rattle.bench_engine.proofs.layering.put_constants.Given as goal

abbrev pub invariant-loop-place : goal.invariant-loop-place
invariant-loop-place l = l.q.width ≡ l.fn.q.width
