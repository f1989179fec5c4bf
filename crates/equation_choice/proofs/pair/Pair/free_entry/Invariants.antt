use Rattle.std.proofs.Common.{◌-◌}
use Rattle.mixed_matrices.specs.Arcs.{is_free}
use Rattle.independent_matching.specs.Sides.{layers_of, tableau_of_pair}
use Rattle.row_choice_laws.specs.RowSearches.{has_row_entry}
use Rattle.equation_choice.specs.Pairs.{HasNoFree}
use Rattle.equation_choice.proofs.pair.Pair.free_entry.Given as goal

abbrev pub invariant-loop-x : goal.invariant-loop-x
invariant-loop-x g l =
    let S = g.T.Tableau.state l.self.tableau in
    let F = tableau_of_pair S l.self.mates in
    HasNoFree l.at (has_row_entry g.F.Field.modulus (layers_of S l.self.mates) F l.row) (is_free F)

abbrev pub decreases-loop-x : goal.decreases-loop-x
decreases-loop-x g l = (g.T.Tableau.state l.self.tableau).columns - l.at
