use Rattle.std.proofs.Common.{◌≡◌, ◌+◌, ◌-◌}
use Rattle.independent_matching.specs.Sides.{size_of}
use Rattle.independent_matching.proofs.RunLaws.{IsGrowing}
use Rattle.independent_matching.proofs.engine.Engine.run_counted.Given as goal

abbrev pub invariant-loop-made : goal.invariant-loop-made
invariant-loop-made g l = record {
  growing : IsGrowing g.row.T.Denot g.T.Tableau.state g.T.Tableau.pivots g.F.Field.modulus l.fn.self l.self l.made l.fn.steps l.steps;
  asked : l.searches + 1 ≡ l.fn.searches + l.made;
}

abbrev pub decreases-loop-made : goal.decreases-loop-made
decreases-loop-made g l =
    (g.T.Tableau.state l.fn.self.tableau).columns - size_of (g.T.Tableau.state l.self.tableau) l.self.matching
