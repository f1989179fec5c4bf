use Rattle.std.proofs.Common.{◌<◌, ◌∙◌, sym, subst}
use Rattle.row_choice_laws.specs.RowSearches.{has_row_entry}
use Rattle.independent_matching.specs.Sides.{layers_of, tableau_of_pair}
use Rattle.equation_choice.proofs.ArcLaws.{apart-tells, back-is, back-none, not-same, same-first}
use Rattle.equation_choice.proofs.back.BackArcs.arc.Goals as goal

pub returns-then-x-y : goal.returns-then-x-y
returns-then-x-y g c =
    let p = g.F.Field.modulus in
    let S = g.T.Tableau.state c.args.self.now.pair.now.tableau in
    let M = c.args.self.now.pair.now.mates in
    let (all, width, apart) = apart-tells S M c.args.x c.requires.x in
    let xl : c.args.x < S.columns = subst (λ n. c.args.x < n) all c.requires.x in
    c.has_entry.ensures ∙ not-same c.args.x c.args.y (has_row_entry p (layers_of S M) (tableau_of_pair S M) c.in-Some.row c.args.y) c.if-x-y.true
    ∙ sym (back-is p S M c.args.x c.in-Some.row (sym c.in-Some.ensures.row) (c.in-Some.ensures.tableau.unit_columns.row_below c.args.x xl)
    (apart c.args.x xl) c.args.y)

pub returns-else-x-y : goal.returns-else-x-y
returns-else-x-y g c =
    let p = g.F.Field.modulus in
    let S = g.T.Tableau.state c.args.self.now.pair.now.tableau in
    let M = c.args.self.now.pair.now.mates in
    let (all, width, apart) = apart-tells S M c.args.x c.requires.x in
    let xl : c.args.x < S.columns = subst (λ n. c.args.x < n) all c.requires.x in
    same-first c.args.x c.args.y (has_row_entry p (layers_of S M) (tableau_of_pair S M) c.in-Some.row c.args.y) c.if-x-y.false
    ∙ sym (back-is p S M c.args.x c.in-Some.row (sym c.in-Some.ensures.row) (c.in-Some.ensures.tableau.unit_columns.row_below c.args.x xl)
    (apart c.args.x xl) c.args.y)

pub returns-in-None : goal.returns-in-None
returns-in-None g c =
    let S = g.T.Tableau.state c.args.self.now.pair.now.tableau in
    let M = c.args.self.now.pair.now.mates in
    sym (back-none g.F.Field.modulus S M c.args.x c.args.y (sym c.in-None.ensures.row))
