use Rattle.std.proofs.Common.{subst, sym}
use Rattle.independent_matching.specs.Edits.{IsEdited, IsColumnOutAt}
use Rattle.independent_matching.proofs.EditLaws.{column-out}
use Rattle.independent_matching.proofs.pair.Pair.remove_column.Goals as goal

pub returns-in-Some-clause-edited : goal.returns-in-Some-clause-edited
returns-in-Some-clause-edited g c L K least out E =
    let p = g.F.Field.modulus in
    let S = g.T.Tableau.state c.args.self.now.tableau in
    let S' = g.T.Tableau.state c.remove_column-in-Some.new.self in
    subst (λ m. IsEdited p K least S' m) (sym c.remove_column.ensures.column)
    (column-out p g.met.F.Field.prime L K c.in-Some.col (subst (λ o. IsColumnOutAt p o L K) c.in-Some.is out) least S S' c.args.self.now.mates
    c.is_tableau.ensures.tableau c.pattern-pattern.ensures.matching c.remove_column-in-Some.ensures.column E)
