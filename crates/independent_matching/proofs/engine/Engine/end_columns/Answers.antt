use Rattle.std.proofs.Common.{◌≡◌, ℕ, ◌<◌, ◌∙◌, ap, subst}
use Rattle.exchange_graph.specs.Marks.{members_of}
use Rattle.mixed_matrices.specs.Arcs.{is_end}
use Rattle.independent_matching.specs.Sides.{layers_of, tableau_of_pair}
use Rattle.independent_matching.proofs.SideLaws.{mark-end}
use Rattle.independent_matching.proofs.engine.Engine.end_columns.Goals as goal

pub returns-clause-marks : goal.returns-clause-marks
returns-clause-marks g c =
    let p = g.F.Field.modulus in
    let e = c.self.inside.mover in
    let S = g.T.Tableau.state e.pair.tableau in
    let M = e.pair.mates in
    let marks = c.self.invariant.marks in
    subst (λ v. (col : ℕ) → col < (g.T.Tableau.state v.tableau).columns → members_of c.deref.result.now col ≡
    is_end p (layers_of (g.T.Tableau.state v.tableau) v.matching) (tableau_of_pair (g.T.Tableau.state v.tableau) v.matching) col)
    c.self.view_is
    (λ col below. ap (λ list. members_of list col) c.deref.ensures.value
    ∙ mark-end p S M col c.self.invariant.width c.self.inside.resting e.marks (marks.of_q.ends col below) (marks.by_t col below) (marks.of_q.by_q col below))
