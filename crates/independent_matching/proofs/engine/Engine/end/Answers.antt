use Rattle.std.proofs.Common.{◌<◌, ◌∙◌, false, ap, sym, subst}
use Rattle.std.proofs.lemmas.List.{get_or_read_under}
use Rattle.mixed_matrices.specs.Arcs.{is_end}
use Rattle.independent_matching.specs.Sides.{layers_of, tableau_of_pair}
use Rattle.independent_matching.proofs.SideLaws.{mark-end}
use Rattle.independent_matching.proofs.engine.Engine.end.Goals as goal

pub returns : goal.returns
returns g c =
    let p = g.F.Field.modulus in
    let e = c.self.inside.mover in
    let S = g.T.Tableau.state e.pair.tableau in
    let M = e.pair.mates in
    let marks = c.self.invariant.marks in
    let below : c.args.col < S.columns = subst (λ (v : _). c.args.col < (g.T.Tableau.state v.tableau).columns) (sym c.self.view_is) c.requires in
    get_or_read_under e.marks.ends.items c.args.col _ c.index.result.now false c.index.ensures below (sym marks.of_q.sized.end_count)
    ∙ (mark-end p S M c.args.col c.self.invariant.width c.self.inside.resting e.marks (marks.of_q.ends c.args.col below)
    (marks.by_t c.args.col below) (marks.of_q.by_q c.args.col below)
    ∙ ap (λ (v : _). is_end p (layers_of (g.T.Tableau.state v.tableau) v.matching)
    (tableau_of_pair (g.T.Tableau.state v.tableau) v.matching) c.args.col) c.self.view_is)
