use Rattle.std.proofs.Common.{◌≡◌, ◌<◌, ℕ, length}
use Rattle.exchange_graph.specs.Marks.{members_of}
use Rattle.mixed_matrices.specs.Arcs.{is_free}
use Rattle.independent_matching.specs.Sides.{tableau_of_pair}
use Rattle.independent_matching.proofs.resting.Resting.mark_free.Given as goal

abbrev pub invariant-loop-x : goal.invariant-loop-x
invariant-loop-x g l = record {
  free : (y : ℕ) → y < l.x → members_of l.self.free.items y ≡ is_free (tableau_of_pair (g.T.Tableau.state l.pair.tableau) l.pair.mates) y;
  count : length l.self.free.items ≡ length l.fn.self.free.items;
  by_t : l.self.by_t ≡ l.fn.self.by_t;
}
