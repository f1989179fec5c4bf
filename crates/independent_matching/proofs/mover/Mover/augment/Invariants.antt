use Rattle.std.proofs.Common.{◌≡◌, ◌+◌}
use Rattle.residue_theory.specs.Sums.{size_on}
use Rattle.exchange_graph.specs.Results.{step_of}
use Rattle.mixed_augmentation_laws.specs.Moves.{route}
use Rattle.mixed_augmentation_laws.specs.Sealed.{KeepsSealed}
use Rattle.independent_matching.specs.Engines.{ArePivotsMade}
use Rattle.independent_matching.specs.Marks.{AreMarksOfQ}
use Rattle.independent_matching.specs.Sides.{AreRowsMoving, IsMoving, in_q, layers_of, number, tableau_of_pair}
use Rattle.independent_matching.proofs.mover.Mover.augment.Given as goal

abbrev pub invariant-loop-next : goal.invariant-loop-next
invariant-loop-next g l =
    let S = g.T.Tableau.state l.fn.self.pair.tableau in
    let M = l.fn.self.pair.mates in
    let R = route (tableau_of_pair S M) (step_of l.fn.search) l.last (in_q l.fn.end) (number l.fn.end) in
    record {
      moving : IsMoving g.F.Field.modulus S M R (g.T.Tableau.state l.self.pair.tableau) l.self.pair.mates l.next l.left;
      rows : AreRowsMoving M l.fn.end l.self.pair.mates l.next;
      sealed : KeepsSealed g.F.Field.modulus (layers_of S M) (tableau_of_pair S M)
          (tableau_of_pair (g.T.Tableau.state l.self.pair.tableau) l.self.pair.mates);
      marks : AreMarksOfQ g.F.Field.modulus (g.T.Tableau.state l.self.pair.tableau) l.resting l.self.marks;
      count : l.steps + size_on R.in_q l.left ≡ l.fn.steps + size_on R.in_q (l.last + 1);
      pivots : l.steps + l.fn.self.pivots ≡ l.fn.steps + l.self.pivots;
      made : ArePivotsMade (g.T.Tableau.pivots l.fn.self.pair.tableau) (g.T.Tableau.pivots l.self.pair.tableau) l.fn.self.pivots
          l.self.pivots;
    }

abbrev pub decreases-loop-next : goal.decreases-loop-next
decreases-loop-next g l = l.left
