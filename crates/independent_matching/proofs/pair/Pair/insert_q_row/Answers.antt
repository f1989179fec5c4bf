use Rattle.std.proofs.Common.{◌≡◌, ◌<◌, ℕ, IfSome, map, slice_index, subst}
use Rattle.independent_matching.specs.Edits.{IsQRowOutAt}
use Rattle.independent_matching.proofs.EditLaws.{q-in}
use Rattle.independent_matching.proofs.pair.Pair.insert_q_row.Goals as goal

pub returns-in-Some-clause-edited : goal.returns-in-Some-clause-edited
returns-in-Some-clause-edited g c L K least out row E =
    let p = g.F.Field.modulus in
    let items = map g.F.Field.number c.args.items.now in
    let here = subst (λ o. IfSome o (λ i. (j : ℕ) → j < K.columns → K.q i j ≡ slice_index items j)) c.in-Some.is row in
    q-in p K L c.in-Some.row (subst (λ o. IsQRowOutAt p o K L) c.in-Some.is out) least (g.T.Tableau.state c.args.self.now.tableau)
    (g.T.Tableau.state c.insert_row.new.self) c.args.self.now.mates (λ j. slice_index items j) c.insert_row.ensures.row here E
