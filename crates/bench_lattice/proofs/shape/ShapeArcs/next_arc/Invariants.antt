use Rattle.std.proofs.Common.{◌≡◌, ◌<◌, ◌≤◌, ℕ, false}
use Rattle.bench_lattice.specs.Shapes.{leads_of}
use Rattle.bench_lattice.proofs.shape.ShapeArcs.next_arc.Given as goal

abbrev pub invariant-loop-y : goal.invariant-loop-y
invariant-loop-y l = (z : ℕ) → l.from ≤ z → z < l.y → leads_of l.self.kind l.self.places l.x z ≡ false
