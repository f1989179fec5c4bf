use Rattle.std.proofs.Common.{◌≡◌, All, List, map, refl, sym, subst, ◌∙◌}
use Rattle.std.proofs.lemmas.Result.{on_ok_weaker, IfErr-weaker}
use Rattle.mixed_model.specs.Models.{MixedModel}
use Rattle.term_model.specs.Putting.{IsPlaced, CountsAsTerm, PutsTerms, LacksRoom}
use Rattle.term_model.specs.Terms.{Term}
use Rattle.term_model.proofs.Lists.{all_at}
use Rattle.netlist_reader.specs.Numbers.{Numbered, NumberedTerm, name_term, name_terms}
use Rattle.netlist_reader.specs.Putting.{put_by}
use Rattle.netlist_reader.proofs.Forms.{forms, puts}
use Rattle.netlist_reader.proofs.Numbering.{all_within, terms_named}
use Rattle.netlist_reader.proofs.Steps.{device_says, device_refused}
use Rattle.netlist_reader.proofs.building.put_device.Goals as goal

-- some terms by the names of a model
by_model : (names : Numbered) (model : MixedModel) (all terms : List NumberedTerm) (put : List Term) →
    model.equations ≡ names.equations → model.unknowns ≡ names.unknowns → all ≡ terms → name_terms names terms ≡ put →
    map (name_term model.equations model.unknowns) all ≡ put
by_model names model all terms put equations unknowns same is =
    (λ k. map (name_term (equations k) (unknowns k)) (same k)) ∙ sym (terms_named names terms) ∙ is

pub put_terms-requires-clause-within : goal.put_terms-requires-clause-within
put_terms-requires-clause-within g c =
    let model = c.args.model.now in
    all_within model.equations model.unknowns c.is_model.ensures.equations c.is_model.ensures.unknowns c.deref.result.now
    (subst (All (IsPlaced model.equations model.unknowns))
    (sym (by_model g.names model c.deref.result.now _ _ c.requires.1.0 c.requires.1.1.0 c.deref.ensures.value c.in-Ok.ensures)) c.requires.1.1.1.1.1.1)

pub put_terms-requires-clause-constants : goal.put_terms-requires-clause-constants
put_terms-requires-clause-constants g c =
    let d = c.args.device.now in
    let p = g.F.Field.modulus in
    subst (All CountsAsTerm)
    (sym (by_model g.names c.args.model.now c.deref.result.now _ _ c.requires.1.0 c.requires.1.1.0 c.deref.ensures.value c.in-Ok.ensures))
    (all_at CountsAsTerm (put_by p d.kind d) (puts d (put_by p d.kind d) (forms p d g.met.F.Field.odd d.kind refl c.requires.1.1.1.1.0.nodes_wanted)))

pub returns-clause-says : goal.returns-clause-says
returns-clause-says g c =
    on_ok_weaker c.put_terms.result
    (λ put. device_says g.F.Field.modulus c.args.model.now c.put_terms.new.model c.args.device.now g.met.F.Field.odd c.requires.1.1.1.1.0
    (subst (PutsTerms g.F.Field.modulus c.args.model.now c.put_terms.new.model)
    (by_model g.names c.args.model.now c.deref.result.now _ _ c.requires.1.0 c.requires.1.1.0 c.deref.ensures.value c.in-Ok.ensures) put))
    c.put_terms.ensures.says

pub returns-clause-refused : goal.returns-clause-refused
returns-clause-refused g c =
    IfErr-weaker c.put_terms.result _ _
    (λ error lacks. device_refused g.F.Field.modulus c.args.model.now c.args.device.now error g.met.F.Field.odd c.requires.1.1.1.1.0
    (subst (λ terms. LacksRoom g.F.Field.modulus c.args.model.now terms error)
    (by_model g.names c.args.model.now c.deref.result.now _ _ c.requires.1.0 c.requires.1.1.0 c.deref.ensures.value c.in-Ok.ensures) lacks))
    c.put_terms.ensures.refused
