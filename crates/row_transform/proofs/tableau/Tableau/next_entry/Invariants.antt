use Rattle.std.proofs.Common.{◌-◌, ◌≤◌}
use Rattle.residue_theory.specs.Ranges.{HasNone}
use Rattle.row_transform.specs.Tableaus.{TableauState, has_entry}
use Rattle.row_transform.proofs.tableau.Tableau.next_entry.Given as goal

abbrev pub invariant-loop-row : goal.invariant-loop-row
invariant-loop-row g l = record {
  from_on : l.from ≤ l.at;
  none : HasNone (λ row. has_entry g.F.Field.modulus (g.Self.Tableau.state l.self) row l.col) l.from l.at;
}

abbrev pub decreases-loop-row : goal.decreases-loop-row
decreases-loop-row g l =
    let t : TableauState = g.Self.Tableau.state l.self in
    t.rows - l.at
