use Rattle.std.proofs.Common.{sym, subst}
use Rattle.equation_choice.specs.Choosers.{IsReadyChooser}
use Rattle.equation_choice.proofs.OverLaws.{ready-left}
use Rattle.equation_choice.proofs.chooser.Chooser.give_up.Goals as goal

pub returns-in-Some-Some-Some-clause-ready : goal.returns-in-Some-Some-Some-clause-ready
returns-in-Some-Some-Some-clause-ready g c =
    let p = g.F.Field.modulus in
    let l = c.args.layered.now in
    let M = c.args.self.now.pair.mates in
    let N = c.leave.new.self.mates in
    subst (λ t. IsReadyChooser p l (g.T.Tableau.state t) N c.args.self.now.search c.args.self.now.starts.items c.args.self.now.free.items)
    (sym c.leave.ensures.tableau)
    (ready-left p l (g.T.Tableau.state c.args.self.now.pair.tableau) M N c.args.self.now.search c.args.self.now.starts.items
    c.args.self.now.free.items c.requires.ready c.leave.ensures.pattern c.leave.ensures.still c.in-Some-Some-Some.x c.leave.ensures.unlinked)
