use Rattle.std.proofs.Common.{◌≡◌, ◌+◌, ℕ}
use Rattle.sparse_t.specs.Incidences.{incidence_rows}
use Rattle.mixed_matrices.specs.LayeredMatrices.{LayeredMatrix}
use Rattle.independent_matching.specs.Edits.{IsEdited, IsWidened, KeepsRoom}
use Rattle.independent_matching.proofs.pair.Pair.widen.Given as goal

abbrev pub invariant-loop-at : goal.invariant-loop-at
invariant-loop-at g l =
    let S = g.T.Tableau.state l.self.tableau in
    let S₀ = g.T.Tableau.state l.fn.self.tableau in
    let p = g.F.Field.modulus in
    record {
      edited : (L K : LayeredMatrix) (least : ℕ) → IsWidened p L K l.fn.from l.at → IsEdited p L least S₀ l.fn.self.mates → IsEdited p K least S l.self.mates;
      rows : S.rows ≡ S₀.rows;
      t_rows : incidence_rows l.self.mates.pattern ≡ incidence_rows l.fn.self.mates.pattern;
      columns : S.columns + l.fn.from ≡ S₀.columns + l.at;
      width : l.self.mates.pattern.width ≡ S.columns;
      counted : g.T.Tableau.pivots l.self.tableau ≡ g.T.Tableau.pivots l.fn.self.tableau;
      room : KeepsRoom (g.T.Tableau.room_of l.fn.self.tableau) (g.T.Tableau.room_of l.self.tableau) l.fn.self.mates l.self.mates;
    }
