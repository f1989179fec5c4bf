use Rattle.std.proofs.Common.{◌-◌, subst, sym}
use Rattle.independent_matching.specs.Edits.{IsEdited, IsTRowOutAt}
use Rattle.independent_matching.proofs.EditLaws.{t-out}
use Rattle.independent_matching.proofs.pair.Pair.remove_t_row.Goals as goal

pub returns-in-Some-clause-edited : goal.returns-in-Some-clause-edited
returns-in-Some-clause-edited g c L K least out E =
    let p = g.F.Field.modulus in
    let S = g.T.Tableau.state c.part_t_row.new.self.tableau in
    subst (λ m. IsEdited p K (least - 1) S m) (sym c.remove_row.ensures.row)
    (t-out p L K c.in-Some.row (subst (λ o. IsTRowOutAt p o L K) c.in-Some.is out) (least - 1) S c.part_t_row.new.self.mates
    (c.part_t_row.ensures.edited L least E))
