use Rattle.std.proofs.Common.{◌≡◌, ◌∷◌, [], subst}
use Rattle.std.proofs.lemmas.Result.{on_ok_weaker, IfErr-weaker}
use Rattle.term_model.specs.Putting.{LacksRoom, PutsTerms, term_of_value}
use Rattle.term_model.proofs.putting.put_value.Goals as goal

pub returns-clause-says : goal.returns-clause-says
returns-clause-says g c =
    let place = c.place_of-i.ensures.place in
    on_ok_weaker c.put_value_at.result
    (subst (λ term. PutsTerms g.F.Field.modulus c.args.model.now c.put_value_at.new.model (term ∷ []))
    (λ k. term_of_value g.F.Field.number (place.equation_is k) (place.unknown_is k) c.args.value))
    c.put_value_at.ensures.says

pub returns-clause-refused : goal.returns-clause-refused
returns-clause-refused g c =
    let place = c.place_of-i.ensures.place in
    IfErr-weaker c.put_value_at.result _ _
    (λ error. subst (λ term. LacksRoom g.F.Field.modulus c.args.model.now (term ∷ []) error)
    (λ k. term_of_value g.F.Field.number (place.equation_is k) (place.unknown_is k) c.args.value))
    c.put_value_at.ensures.refused
