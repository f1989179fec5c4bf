use Rattle.std.proofs.Common.{◌≡◌, ◌<◌, ◌≤◌, ◌-◌, ℕ, true}
use Rattle.row_transform.specs.Tableaus.{IsBaseColumn, has_entry}
use Rattle.independent_matching.proofs.pair.Pair.next_in_q.Given as goal

abbrev pub invariant-loop-row : goal.invariant-loop-row
invariant-loop-row g l =
    let S = g.T.Tableau.state l.self.tableau in
    record {
      onward : l.from ≤ l.start;
      none : (row y : ℕ) → l.from ≤ row → row < l.start → has_entry g.F.Field.modulus S row l.x ≡ true →
          IsBaseColumn S row y → y ≡ l.x;
    }

abbrev pub decreases-loop-row : goal.decreases-loop-row
decreases-loop-row g l = (g.T.Tableau.state l.self.tableau).rows - l.start
