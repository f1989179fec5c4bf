use Rattle.std.proofs.Common.{◌<◌, ◌≤◌, ◌-◌, ℕ}
use Rattle.independent_matching.specs.Sides.{IsFreeQRow}
use Rattle.independent_matching.proofs.pair.Pair.free_q_row_from.Given as goal

abbrev pub invariant-loop-row : goal.invariant-loop-row
invariant-loop-row g l = (row : ℕ) → l.from ≤ row → row < l.start → IsFreeQRow g.F.Field.modulus (g.T.Tableau.state l.self.tableau) l.x row → ⊥

abbrev pub decreases-loop-row : goal.decreases-loop-row
decreases-loop-row g l = (g.T.Tableau.state l.self.tableau).rows - l.start
