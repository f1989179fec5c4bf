use Rattle.std.proofs.Common.{◌∙◌, ap, sym, subst, ℕ, ◌≡◌, ◌↔◌, true}
use Rattle.exchange_graph.specs.Marks.{members_of}
use Rattle.exchange_graph.specs.Results.{reached_of}
use Rattle.equation_choice.specs.Choosers.{HasBeenRefused}
use Rattle.equation_choice.specs.Told.{IsToldByTry}
use Rattle.equation_choice.proofs.Circuits.{tells-circuit}
use Rattle.equation_choice.proofs.Joins.{is-refused}
use Rattle.equation_choice.proofs.chooser.Chooser.join_telling.Goals as goal

pub returns-clause-refused : goal.returns-clause-refused
returns-clause-refused g c fails =
    let p = g.F.Field.modulus in
    let l = c.args.layered.now in
    let S = g.T.Tableau.state c.args.self.now.pair.tableau in
    let M = c.args.self.now.pair.mates in
    let tried = c.attempt.ensures.refused c.if-attempt.false in
    let last = ap g.T.Tableau.state c.give_up.ensures.tableau ∙ tried.state in
    subst (λ s. HasBeenRefused p l S s M c.give_up.new.self.pair.mates c.args.equation) (sym last)
    (is-refused p g.met.F.Field.prime l tried.parts S M c.requires.ready.over c.args.equation c.args.rows.q c.args.rows.t
    c.args.rows.auxiliary c.requires.rows c.attempt.new.self.pair.mates tried.entered g.met.F.Field.odd (reached_of c.attempt.new.self.search)
    tried.vain c.give_up.new.self.pair.mates c.give_up.ensures.given_up)

pub returns-clause-told : goal.returns-clause-told
returns-clause-told g c fails =
    let p = g.F.Field.modulus in
    let l = c.args.layered.now in
    let S = g.T.Tableau.state c.args.self.now.pair.tableau in
    let M = c.args.self.now.pair.mates in
    let M' = c.attempt.new.self.pair.mates in
    let tried = c.attempt.ensures.refused c.if-attempt.false in
    let rows = c.args.rows in
    let told = subst (λ s. (x : ℕ) → (members_of c.tell.new.told x ≡ true)
    ↔ IsToldByTry p l s M' c.args.symbols.now (reached_of c.attempt.new.self.search) rows.q rows.t c.args.equation x) tried.state c.tell.ensures.told in
    tells-circuit p g.met.F.Field.prime l tried.parts S M c.requires.ready.over c.args.equation rows.q rows.t rows.auxiliary c.requires.rows M'
    tried.entered g.met.F.Field.odd (reached_of c.attempt.new.self.search) tried.vain c.args.symbols.now c.tell.new.told told
