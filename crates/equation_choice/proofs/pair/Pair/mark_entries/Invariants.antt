use Rattle.std.proofs.Common.{◌≡◌, ◌<◌, ◌≤◌, ◌-◌, ℕ, false, length}
use Rattle.exchange_graph.specs.Marks.{members_of}
use Rattle.independent_matching.specs.Sides.{layers_of, tableau_of_pair}
use Rattle.row_choice_laws.specs.RowSearches.{has_row_entry}
use Rattle.equation_choice.proofs.pair.Pair.mark_entries.Given as goal

abbrev pub invariant-loop-x : goal.invariant-loop-x
invariant-loop-x g l =
    let S = g.T.Tableau.state l.self.tableau in
    record {
      count : length l.marks ≡ S.columns;
      seen : (y : ℕ) → y < l.at → y < S.columns → members_of l.marks y
          ≡ has_row_entry g.F.Field.modulus (layers_of S l.self.mates) (tableau_of_pair S l.self.mates) l.row y;
      rest : (y : ℕ) → l.at ≤ y → members_of l.marks y ≡ false;
    }

abbrev pub decreases-loop-x : goal.decreases-loop-x
decreases-loop-x g l = (g.T.Tableau.state l.self.tableau).columns - l.at
