use Rattle.std.proofs.Common.{IfNone, length, sym, subst, arith}
use Rattle.sparse_t.specs.Incidences.{AreRowsAt}
use Rattle.exchange_graph.specs.Turns.{HaveHadTurns}
use Rattle.mixed_matrices.specs.Arcs.{leads_to}
use Rattle.independent_matching.specs.Sides.{common_columns, layers_of, tableau_of_pair}
use Rattle.independent_matching.specs.Turns.{turn_of}
use Rattle.independent_matching.proofs.NextLaws.{common-below, next-by_q, next-by_t, none-by_q, t_turns-are}
use Rattle.independent_matching.proofs.pair.PairArcs.next_arc.Goals as goal

pub returns-in-Some-clause-some : goal.returns-in-Some-clause-some
returns-in-Some-clause-some g c =
    let S = g.T.Tableau.state c.args.self.now.tableau in
    let M = c.args.self.now.mates in
    let (columns, width) = common-below S M c.args.x c.requires.x in
    next-by_t g.F.Field.modulus S M c.args.x (common_columns S M) c.args.from columns width
    c.in-Some.found.0 c.in-Some.found.1 c.in-Some.ensures.some c.in-Some.ensures.few

pub returns-in_err-y-clause-none : goal.returns-in_err-y-clause-none
returns-in_err-y-clause-none g c =
    let p = g.F.Field.modulus in
    let S = g.T.Tableau.state c.args.self.now.tableau in
    let M = c.args.self.now.mates in
    let x = c.args.x in
    let n = common_columns S M in
    let list = c.rows_of-count.result.now in
    let rows : AreRowsAt M.pattern x list =
    subst (λ P. AreRowsAt P x list) c.pattern.ensures.pattern c.rows_of-count.ensures in
    let (columns, width) = common-below S M x c.requires.x in
    subst (λ found. IfNone found
    (HaveHadTurns (leads_to p (layers_of S M) (tableau_of_pair S M) x) (turn_of S M x) n c.args.from))
    (sym c.from_residual.ensures)
    (none-by_q p S M x n c.args.from columns width c.in_default.ensures.none
    (length list) c.saturating_sub.result (t_turns-are M c.pattern.ensures.matching x list rows)
    c.saturating_sub.ensures c.in_err-y.ensures.none)

pub returns-clause-some : goal.returns-clause-some
returns-clause-some g c =
    let S = g.T.Tableau.state c.args.self.now.tableau in
    let M = c.args.self.now.mates in
    let x = c.args.x in
    let list = c.rows_of-count.result.now in
    let rows : AreRowsAt M.pattern x list =
    subst (λ P. AreRowsAt P x list) c.pattern.ensures.pattern c.rows_of-count.ensures in
    let (columns, width) = common-below S M x c.requires.x in
    next-by_q g.F.Field.modulus S M x (common_columns S M) c.args.from columns width c.in_default.ensures.none
    (length list) c.saturating_sub.result (t_turns-are M c.pattern.ensures.matching x list rows)
    c.saturating_sub.ensures c.in_ok-y.y c.in_ok-y.next c.in_ok-y.ensures.some
    (omega (arith, c.in_ok-y.ensures.few, c.rows_of-count.type_inv.1))
