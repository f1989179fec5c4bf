use Rattle.std.proofs.Common.{◌≡◌, ◌<◌, ◌≤◌, ℕ, false}
use Rattle.search_tables.proofs.shapes.ByNumberArcs.next_arc.Given as goal

abbrev pub invariant-loop-y : goal.invariant-loop-y
invariant-loop-y g l = (z : ℕ) → l.from ≤ z → z < l.y → g.S.Shape.leads_to l.self.shape.now l.x z ≡ false
