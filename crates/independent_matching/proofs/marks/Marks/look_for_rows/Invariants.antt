use Rattle.std.proofs.Common.{◌≡◌, ◌<◌, ℕ}
use Rattle.exchange_graph.specs.Marks.{members_of}
use Rattle.mixed_matrices.specs.Arcs.{is_free}
use Rattle.independent_matching.specs.Marks.{IsEndMark, IsQMark, AreKeptMarks, IsTMark}
use Rattle.independent_matching.specs.Sides.{tableau_of_pair}
use Rattle.independent_matching.proofs.marks.Marks.look_for_rows.Given as goal

abbrev pub invariant-loop-x : goal.invariant-loop-x
invariant-loop-x g l =
    let S = g.T.Tableau.state l.pair.tableau in
    record {
      sized : AreKeptMarks S.columns l.resting l.self;
      free : (y : ℕ) → y < S.columns → members_of l.resting.free.items y ≡ is_free (tableau_of_pair S l.pair.mates) y;
      by_t : (y : ℕ) → y < l.x → IsTMark l.pair.mates l.resting.by_t.items y;
      by_q : (y : ℕ) → y < l.x → IsQMark g.F.Field.modulus S l.self.by_q.items y;
      ends : (y : ℕ) → y < l.x → IsEndMark l.resting l.self y;
    }
