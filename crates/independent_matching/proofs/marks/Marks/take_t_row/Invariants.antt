use Rattle.std.proofs.Common.{◌≡◌, ◌≢◌, ◌<◌, ◌≤◌, ℕ, length, slice_index}
use Rattle.independent_matching.specs.Marks.{AreMarksOfQ, IsTMark}
use Rattle.independent_matching.proofs.marks.Marks.take_t_row.Given as goal

abbrev pub invariant-loop-x : goal.invariant-loop-x
invariant-loop-x g l = record {
  of_q : AreMarksOfQ g.F.Field.modulus (g.T.Tableau.state l.pair.tableau) l.resting l.self;
  free : l.resting.free ≡ l.fn.resting.free;
  by_t : (y : ℕ) → y < l.pair.mates.pattern.width → ((k : ℕ) → l.x-index ≤ k → k < length l.x-items →
      slice_index l.x-items k ≢ y) → IsTMark l.pair.mates l.resting.by_t.items y;
}
