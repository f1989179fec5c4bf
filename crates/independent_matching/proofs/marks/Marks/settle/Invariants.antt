use Rattle.std.proofs.Common.{◌≡◌, ◌≢◌, ◌<◌, ◌≤◌, ℕ}
use Rattle.independent_matching.specs.Marks.{IsEndMark, AreKeptMarks, IsQMark, touched_at}
use Rattle.independent_matching.proofs.marks.Marks.settle.Given as goal

abbrev pub invariant-loop-at : goal.invariant-loop-at
invariant-loop-at g l =
    let S = g.T.Tableau.state l.pair.tableau in
    record {
      sized : AreKeptMarks S.columns l.resting l.self;
      touched : l.self.touched ≡ l.fn.self.touched;
      count : l.self.count ≡ l.fn.self.count;
      ends : (y : ℕ) → y < S.columns → IsEndMark l.resting l.self y;
      done : (y : ℕ) → y < S.columns → ((i : ℕ) → l.at ≤ i → i < l.fn.self.count → touched_at l.fn.self i ≢ y) →
          IsQMark g.F.Field.modulus S l.self.by_q.items y;
    }
