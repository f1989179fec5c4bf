use Rattle.std.proofs.Common.{◌≡◌, Some, None, sym, ◌∙◌}
use Rattle.std.proofs.lemmas.List.{get_or_read_under}
use Rattle.independent_matching.specs.Marks.{marked_row}
use Rattle.independent_matching.proofs.SideLaws.{free-end, free_q-row, free_t-row, none-end}
use Rattle.independent_matching.proofs.marks.Marks.free_row.Goals as goal

pub returns-in-Some-default-clause-end : goal.returns-in-Some-default-clause-end
returns-in-Some-default-clause-end g c =
    let S = g.T.Tableau.state c.args.pair.now.tableau in
    let M = c.args.pair.now.mates in
    free-end g.F.Field.modulus S M c.args.x _ c.in-Some-default.row
    (free_t-row g.F.Field.modulus S M c.args.x c.requires.width c.in-Some-default.row c.in-Some-default.ensures.some)

pub returns-in-None-Some-clause-free : goal.returns-in-None-Some-clause-free
returns-in-None-Some-clause-free g c =
    let S = g.T.Tableau.state c.args.pair.now.tableau in
    let told : marked_row c.args.self.now.by_q.items c.args.x ≡ Some c.in-None-Some.row =
    sym (get_or_read_under c.args.self.now.by_q.items c.args.x _ c.index.result.now None c.index.ensures c.requires.x
    (sym c.requires.count)) ∙ c.in-None-Some.is-1 in
    free_q-row g.F.Field.modulus S c.args.pair.now.mates c.args.x c.in-None-Some.row
    ((c.requires.marks c.args.x c.requires.x).some c.in-None-Some.row told)

pub returns-in-None-Some-clause-end : goal.returns-in-None-Some-clause-end
returns-in-None-Some-clause-end g c =
    let S = g.T.Tableau.state c.args.pair.now.tableau in
    let told : marked_row c.args.self.now.by_q.items c.args.x ≡ Some c.in-None-Some.row =
    sym (get_or_read_under c.args.self.now.by_q.items c.args.x _ c.index.result.now None c.index.ensures c.requires.x
    (sym c.requires.count)) ∙ c.in-None-Some.is-1 in
    free-end g.F.Field.modulus S c.args.pair.now.mates c.args.x _ c.in-None-Some.row
    (free_q-row g.F.Field.modulus S c.args.pair.now.mates c.args.x c.in-None-Some.row
    ((c.requires.marks c.args.x c.requires.x).some c.in-None-Some.row told))

pub returns-in-None-None-clause-end : goal.returns-in-None-None-clause-end
returns-in-None-None-clause-end g c =
    let S = g.T.Tableau.state c.args.pair.now.tableau in
    let told : marked_row c.args.self.now.by_q.items c.args.x ≡ None =
    sym (get_or_read_under c.args.self.now.by_q.items c.args.x _ c.index.result.now None c.index.ensures c.requires.x
    (sym c.requires.count)) ∙ c.in-None-None.is-1 in
    none-end g.F.Field.modulus S c.args.pair.now.mates c.args.x c.requires.width c.in-None-None.ensures.none
    ((c.requires.marks c.args.x c.requires.x).none told)
