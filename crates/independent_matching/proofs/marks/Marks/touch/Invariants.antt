use Rattle.std.proofs.Common.{◌≡◌, ◌≢◌, ◌<◌, ◌≤◌, ◌%◌, ◌-◌, ℕ}
use Rattle.independent_matching.specs.Marks.{AreNoted, IsTouched}
use Rattle.independent_matching.proofs.marks.Marks.touch.Given as goal

abbrev pub invariant-loop-entry : goal.invariant-loop-entry
invariant-loop-entry g l =
    let S = g.T.Tableau.state l.pair.tableau in
    record {
      noted : AreNoted S.columns l.self;
      rest : l.self ≡ record l.fn.self { touched = l.self.touched; count = l.self.count };
      within : l.from ≤ S.columns;
      few : l.self.count ≤ l.from;
      touched : (y : ℕ) → y < l.from → S.p l.row y % g.F.Field.modulus ≢ 0 → IsTouched l.self y;
    }

abbrev pub decreases-loop-entry : goal.decreases-loop-entry
decreases-loop-entry g l = (g.T.Tableau.state l.pair.tableau).columns - l.from
