use Rattle.std.proofs.Common.{◌<◌, ◌∙◌, sym, subst}
use Rattle.independent_matching.proofs.SideLaws.{mark-end}
use Rattle.independent_matching.proofs.engine.Engine.improve.Goals as goal

pub grow-requires-clause-end : goal.grow-requires-clause-end
grow-requires-clause-end g c =
    let e = c.self.inside.mover in
    let S = g.T.Tableau.state e.pair.tableau in
    let x = c.in-Some.x in
    let marks = c.self.invariant.marks in
    let below : x < S.columns = subst (λ n. x < n) marks.of_q.sized.free_count c.in-Some.ensures.below in
    sym (mark-end g.F.Field.modulus S e.pair.mates x c.self.invariant.width c.self.inside.resting e.marks (marks.of_q.ends x below)
    (marks.by_t x below) (marks.of_q.by_q x below)) ∙ c.in-Some.ensures.end
