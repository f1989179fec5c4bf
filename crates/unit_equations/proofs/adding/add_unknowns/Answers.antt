use Rattle.std.proofs.Common.{◌≡◌, ◌+◌, ◌++◌, ◌∷◌, [], IsTrue, false, map, take, refl, sym, ap, subst, ◌∙◌}
use Rattle.std.specs.String.{string_bytes}
use Rattle.std.proofs.lemmas.List.{take_more}
use Rattle.mixed_model.specs.Names.{has_name, is_label}
use Rattle.term_model.proofs.Adding.{text_at}
use Rattle.unit_equations.specs.Growing.{GrowsBy, unknowns_alone}
use Rattle.unit_equations.proofs.Growing.{grows-then, next-new}
use Rattle.unit_equations.proofs.Pairing.{seen-within}
use Rattle.unit_equations.proofs.adding.add_unknowns.Goals as goal

pub add_unknown-requires-clause-label : goal.add_unknown-requires-clause-label
add_unknown-requires-clause-label g c =
    let names = map string_bytes c.args.names.now in
    let i = c.loop-name.name-index in
    let within = seen-within string_bytes c.args.names.now i c.name-item.result c.loop-name-test.true c.name-item.is names refl in
    let at = text_at c.args.names.now i c.name-item.result c.deref.result.now c.loop-name-test.true c.name-item.is c.deref.ensures in
    subst (λ name. IsTrue (is_label name)) at (c.requires.labels i [] within)

pub add_unknown-requires-clause-new : goal.add_unknown-requires-clause-new
add_unknown-requires-clause-new g c =
    let names = map string_bytes c.args.names.now in
    let i = c.loop-name.name-index in
    let name = c.deref.result.now in
    let within = seen-within string_bytes c.args.names.now i c.name-item.result c.loop-name-test.true c.name-item.is names refl in
    let at = text_at c.args.names.now i c.name-item.result name c.loop-name-test.true c.name-item.is c.deref.ensures in
    subst (λ all. has_name all name ≡ false) (sym c.loop-name.invariant.unknowns_are) (next-new c.args.model.now.unknowns names i name c.requires.new within at)

pub loop-name-preserved : goal.loop-name-preserved
loop-name-preserved g c =
    let names = map string_bytes c.args.names.now in
    let i = c.loop-name.name-index in
    let name = c.deref.result.now in
    let within = seen-within string_bytes c.args.names.now i c.name-item.result c.loop-name-test.true c.name-item.is names refl in
    let at = text_at c.args.names.now i c.name-item.result name c.loop-name-test.true c.name-item.is c.deref.ensures in
    let longer : take i names ++ name ∷ [] ≡ take (i + 1) names = ap (λ n. take i names ++ n ∷ []) (sym at) ∙ sym (take_more names i [] within) in
    subst (λ all. GrowsBy g.F.Field.modulus c.args.model.now c.add_unknown.new.model (unknowns_alone all)) longer
    (grows-then g.F.Field.modulus c.args.model.now c.loop-name.model c.add_unknown.new.model
    (unknowns_alone (take i names)) (unknowns_alone
    (name ∷ [])) c.loop-name.invariant c.in_ok-add_unknown.ensures.grown)
