use Rattle.std.proofs.Common.{arith}
use Rattle.bench_lattice.proofs.covered_by.Goals as goal

pub loop-low-preserved : goal.loop-low-preserved
loop-low-preserved c = record {
  within = omega (arith, c.in-Some.ensures.least.before_end);
}
