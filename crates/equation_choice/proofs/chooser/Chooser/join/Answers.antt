use Rattle.std.proofs.Common.{◌∙◌, ap, sym, subst}
use Rattle.exchange_graph.specs.Results.{reached_of}
use Rattle.equation_choice.specs.Choosers.{HasBeenRefused}
use Rattle.equation_choice.proofs.Joins.{is-refused}
use Rattle.equation_choice.proofs.chooser.Chooser.join.Goals as goal

pub returns-clause-refused : goal.returns-clause-refused
returns-clause-refused g c fails =
    let p = g.F.Field.modulus in
    let l = c.args.layered.now in
    let S = g.T.Tableau.state c.args.self.now.pair.tableau in
    let M = c.args.self.now.pair.mates in
    let tried = c.attempt.ensures.refused c.if-attempt.false in
    let last = ap g.T.Tableau.state c.give_up.ensures.tableau ∙ tried.state in
    subst (λ s. HasBeenRefused p l S s M c.give_up.new.self.pair.mates c.args.equation) (sym last)
    (is-refused p g.met.F.Field.prime l tried.parts S M c.requires.ready.over c.args.equation c.args.rows.q c.args.rows.t
    c.args.rows.auxiliary c.requires.rows c.attempt.new.self.pair.mates tried.entered g.met.F.Field.odd (reached_of c.attempt.new.self.search)
    tried.vain c.give_up.new.self.pair.mates c.give_up.ensures.given_up)
