use Rattle.std.proofs.Common.{◌≡◌, ◌<◌, ℕ, length}
use Rattle.exchange_graph.specs.Marks.{members_of}
use Rattle.mixed_matrices.specs.Arcs.{is_free}
use Rattle.independent_matching.specs.Sides.{tableau_of_pair}
use Rattle.equation_choice.proofs.pair.Pair.mark_free.Given as goal

abbrev pub invariant-loop-x : goal.invariant-loop-x
invariant-loop-x g l = record {
  free : (y : ℕ) → y < l.x → members_of l.marks y ≡ is_free (tableau_of_pair (g.T.Tableau.state l.self.tableau) l.self.mates) y;
  count : length l.marks ≡ length l.fn.marks;
}
