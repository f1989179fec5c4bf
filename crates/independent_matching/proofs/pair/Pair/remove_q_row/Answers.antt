use Rattle.std.proofs.Common.{subst}
use Rattle.independent_matching.specs.Edits.{IsQRowOutAt}
use Rattle.independent_matching.proofs.EditLaws.{q-out}
use Rattle.independent_matching.proofs.pair.Pair.remove_q_row.Goals as goal

pub returns-in-Some-clause-edited : goal.returns-in-Some-clause-edited
returns-in-Some-clause-edited g c L K least out E =
    q-out g.F.Field.modulus L K c.in-Some.row (subst (λ o. IsQRowOutAt g.F.Field.modulus o L K) c.in-Some.is out) least
    (g.T.Tableau.state c.args.self.now.tableau) (g.T.Tableau.state c.remove_row.new.self) c.args.self.now.mates c.remove_row.result
    c.remove_row.ensures.row E
