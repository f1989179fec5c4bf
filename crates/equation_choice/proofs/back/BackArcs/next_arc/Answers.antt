use Rattle.equation_choice.proofs.ArcLaws.{apart-tells, turns-bare, turns-next, turns-none}
use Rattle.std.proofs.Common.{◌≤◌, ◌<◌, sym, subst, arith}
use Rattle.equation_choice.specs.Pairs.{apart_columns}
use Rattle.equation_choice.proofs.back.BackArcs.next_arc.Goals as goal

pub returns-in-Some-next_other-clause-some : goal.returns-in-Some-next_other-clause-some
returns-in-Some-next_other-clause-some g c =
    let p = g.F.Field.modulus in
    let S = g.T.Tableau.state c.args.self.now.pair.now.tableau in
    let M = c.args.self.now.pair.now.mates in
    let (all, width, apart) = apart-tells S M c.args.x c.requires.x in
    let xl : c.args.x < S.columns = subst (λ n. c.args.x < n) all c.requires.x in
    turns-next p S M c.args.x c.in-Some.row (sym c.in-Some.ensures.row) (c.in-Some.ensures.tableau.unit_columns.row_below c.args.x xl)
    (apart c.args.x xl) (apart_columns S M) c.args.from c.in-Some-next_other.y all c.in-Some-next_other.ensures.narrow
    c.in-Some-next_other.ensures.least

pub returns-in-None-next_other-clause-none : goal.returns-in-None-next_other-clause-none
returns-in-None-next_other-clause-none g c =
    let p = g.F.Field.modulus in
    let S = g.T.Tableau.state c.args.self.now.pair.now.tableau in
    let M = c.args.self.now.pair.now.mates in
    let (all, width, apart) = apart-tells S M c.args.x c.requires.x in
    let xl : c.args.x < S.columns = subst (λ n. c.args.x < n) all c.requires.x in
    let le : apart_columns S M ≤ S.columns = omega (arith, all) in
    turns-none p S M c.args.x c.in-Some.row (sym c.in-Some.ensures.row) (c.in-Some.ensures.tableau.unit_columns.row_below c.args.x xl)
    (apart c.args.x xl) (apart_columns S M) c.args.from le c.in-None-next_other.ensures.none

pub returns-in-None-clause-none : goal.returns-in-None-clause-none
returns-in-None-clause-none g c =
    let S = g.T.Tableau.state c.args.self.now.pair.now.tableau in
    let M = c.args.self.now.pair.now.mates in
    turns-bare g.F.Field.modulus S M c.args.x (apart_columns S M) c.args.from (sym c.in-None.ensures.row)
