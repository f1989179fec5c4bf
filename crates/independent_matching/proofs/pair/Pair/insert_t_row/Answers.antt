use Rattle.std.proofs.Common.{◌≡◌, ◌<◌, ◌∙◌, ℕ, IfSome, ap, subst, sym}
use Rattle.mixed_model.specs.Layers.{Layers}
use Rattle.residue_theory.specs.Sets.{has}
use Rattle.sparse_t.specs.Incidences.{touches}
use Rattle.independent_matching.specs.Edits.{IsEdited, IsTRowOutAt}
use Rattle.independent_matching.proofs.EditLaws.{t-in}
use Rattle.independent_matching.proofs.pair.Pair.insert_t_row.Goals as goal

pub returns-in-Some-clause-edited : goal.returns-in-Some-clause-edited
returns-in-Some-clause-edited g c L K least out row E =
    let p = g.F.Field.modulus in
    let S = g.T.Tableau.state c.args.self.now.tableau in
    let e = c.in-Some.row in
    let here = subst (λ o. IfSome o (λ i. (j : ℕ) → j < K.columns → K.t i j ≡ touches c.args.new.now.t i j)) c.in-Some.is row in
    subst (λ m. IsEdited p K least S m) (sym c.insert_row.ensures.row)
    (t-in p K L e (subst (λ o. IsTRowOutAt p o K L) c.in-Some.is out) least S c.args.self.now.mates c.row.result.now
    (λ j jl. here j jl ∙ (ap (λ (l : Layers). touches l.t e j) (sym c.new.view_is) ∙ ap (λ xs. has xs j) (sym c.row.ensures.columns))) E)
