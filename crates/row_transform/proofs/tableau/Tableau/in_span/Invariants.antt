use Rattle.std.proofs.Common.{ℕ, ◌≡◌, ◌-◌, ◌<◌, ◌%◌}
use Rattle.row_transform.specs.Tableaus.{TableauState, IsBare}
use Rattle.row_transform.proofs.tableau.Tableau.in_span.Given as goal

abbrev pub invariant-loop-row : goal.invariant-loop-row
invariant-loop-row g l =
    let t : TableauState = g.Self.Tableau.state l.self in
    (k : ℕ) → k < l.at → IsBare t k → t.p k l.col % g.F.Field.modulus ≡ 0

abbrev pub decreases-loop-row : goal.decreases-loop-row
decreases-loop-row g l =
    let t : TableauState = g.Self.Tableau.state l.self in
    t.rows - l.at
