use Rattle.std.proofs.Common.{is_some, ◌∙◌, arith, subst, IfNone, IfSome, ◌-◌, ◌≡◌}
use Rattle.bipartite_matching.specs.Matchings.{HasPair, IsRowFree}
use Rattle.independent_matching.proofs.FreeLaws.{not-told}
use Rattle.equation_choice.proofs.PlaceLaws.{bare-q, bare-t}
use Rattle.equation_choice.proofs.pair.Pair.is_bare.Goals as goal

pub returns-then-row-rows : goal.returns-then-row-rows
returns-then-row-rows g c = not-told (is_some c.base_of.result) c.is_none.result c.is_none.ensures
    ∙ bare-q g.F.Field.modulus (g.T.Tableau.state c.args.self.now.tableau) c.args.self.now.mates c.args.row
    (omega (arith, c.rows-rows.ensures.rows, c.if-row-rows.true)) c.base_of.result c.base_of.ensures.none c.base_of.ensures.some

pub returns-else-row-rows : goal.returns-else-row-rows
returns-else-row-rows g c =
    let S = g.T.Tableau.state c.args.self.now.tableau in
    let M = c.args.self.now.mates in
    let row : c.args.row - c.rows-rows.result ≡ c.args.row - S.rows = omega (arith, c.rows-rows.ensures.rows) in
    not-told (is_some c.mate_of_row.result) c.is_none-else-row-rows.result c.is_none-else-row-rows.ensures
    ∙ bare-t g.F.Field.modulus S M c.mate_of_row.ensures.matching c.requires.width c.args.row
    (omega (arith, c.rows-rows.ensures.rows, c.if-row-rows.false)) c.mate_of_row.result
    (subst (λ r. IfNone c.mate_of_row.result (IsRowFree M r)) row c.mate_of_row.ensures.none)
    (subst (λ r. IfSome c.mate_of_row.result (λ col. HasPair M r col)) row c.mate_of_row.ensures.some)
