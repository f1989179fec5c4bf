use Rattle.std.proofs.Common.{◌≡◌, ◌+◌, ◌++◌, ◌∷◌, [], false, map, take, get_or, refl, sym, ap, subst, ◌∙◌}
use Rattle.std.proofs.lemmas.List.{get_or-map, take-map, take_more}
use Rattle.mixed_model.specs.Names.{has_name}
use Rattle.unit_equations.specs.Growing.{GrowsBy, equations_alone}
use Rattle.unit_equations.specs.Parts.{UnitEquation}
use Rattle.unit_equations.proofs.Growing.{alone-append, grows-then, next-new}
use Rattle.unit_equations.proofs.Pairing.{seen-within}
use Rattle.unit_equations.proofs.adding.add_equations.Goals as goal

pub add_equation-requires-clause-new : goal.add_equation-requires-clause-new
add_equation-requires-clause-new g c =
    let equations = c.args.equations.now in
    let i = c.loop-equation.equation-index in
    let of = c.equation-item.result in
    let names = map (λ (e : UnitEquation). e.name) equations in
    let within = seen-within (λ (e : UnitEquation). e.name) equations i of c.loop-equation-test.true c.equation-item.is names refl in
    let at : get_or names i [] ≡ of.name = get_or-map
    (λ (e : UnitEquation). e.name) equations i of [] c.loop-equation-test.true
    ∙ ap (λ (e : UnitEquation). e.name) (sym c.equation-item.is) in
    subst (λ all. has_name all of.name ≡ false)
    (ap (λ more. c.args.model.now.equations ++ more) (take-map (λ (e : UnitEquation). e.name) i equations) ∙ sym c.loop-equation.invariant.equations_are)
    (next-new c.args.model.now.equations names i of.name c.requires.new within at)

pub loop-equation-preserved : goal.loop-equation-preserved
loop-equation-preserved g c =
    let equations = c.args.equations.now in
    let i = c.loop-equation.equation-index in
    let of = c.equation-item.result in
    let longer : take i equations ++ of ∷ [] ≡ take (i + 1) equations =
    ap (λ last. take i equations ++ last ∷ []) c.equation-item.is ∙ sym (take_more equations i of c.loop-equation-test.true) in
    subst (GrowsBy g.F.Field.modulus c.args.model.now c.add_equation.new.model) (alone-append (take i equations) of ∙ ap equations_alone longer)
    (grows-then g.F.Field.modulus c.args.model.now c.loop-equation.model c.add_equation.new.model
    (equations_alone (take i equations)) (equations_alone
    (of ∷ [])) c.loop-equation.invariant c.in_ok-add_equation.ensures.grown)
