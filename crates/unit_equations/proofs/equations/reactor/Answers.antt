use Rattle.std.proofs.Common.{ℕ, List, ◌++◌, ◌∷◌, [], length, map, refl, ap, ◌∙◌, arith, rules, length-append}
use Rattle.std.proofs.lemmas.List.{length-map}
use Rattle.std.proofs.lemmas.Slice.Zip.{zip_turn, zip_end}
use Rattle.std.specs.String.{string_bytes}
use Rattle.std.proofs.lemmas.Result.{IfOk-weaker}
use Rattle.unit_equations.specs.Kinds.{reactor}
use Rattle.unit_equations.specs.Parts.{UnitEquation, UnitPart}
use Rattle.unit_equations.proofs.Pairing.{all_pairs, next_pair, seen-is, seen-within}
use Rattle.unit_equations.proofs.equations.reactor.Goals as goal

pub loop-component-preserved : goal.loop-component-preserved
loop-component-preserved g c =
    let texts = c.as_slice.result.now in
    let values = c.args.coefficients.now in
    let number = g.F.Field.number in
    let n = length c.loop-component.yielded in
    let turn = zip_turn texts values c.loop-component.yielded c.into_iter-component-iterator.result
    c.loop-component.component-iterator c.next.new.self c.next.result (search rules) (search rules)
    c.loop-component.yielded_by (c.in-Some.component, c.in-Some.coefficient) c.in-Some.is c.next.ensures.steps in
    let text = c.in-Some.component.now in
    let value = c.in-Some.coefficient.now in
    let made : List ℕ → List UnitEquation = λ component.
    (reactor g.F.Field.modulus c.args.unit.now c.args.inlet.now c.args.outlet.now
    ((component, number value) ∷ [])).equations in
    next_pair _ c.args.components.now (map number values) [] c.loop-component.equations c.made.new.self n
    (length (c.loop-component.yielded ++ (c.in-Some.component, c.in-Some.coefficient) ∷ [])) (string_bytes text)
    (number value)
    (seen-within string_bytes texts n text turn.0 (turn.2 text) c.args.components.now c.as_slice.ensures)
    (seen-within number values n value turn.1 (turn.3 value) (map number values) refl)
    (seen-is string_bytes texts n text turn.0 (turn.2 text) c.args.components.now c.as_slice.ensures)
    (seen-is number values n value turn.1 (turn.3 value) (map number values) refl)
    (length-append c.loop-component.yielded _) c.loop-component.invariant
    (c.in_ok-made.ensures ∙ ap (λ component. c.loop-component.equations ++ made component) c.deref.ensures)

pub returns : goal.returns
returns g c =
    let texts = c.as_slice.result.now in
    let values = c.args.coefficients.now in
    let number = g.F.Field.number in
    let turns = zip_end texts values c.loop-component.yielded c.into_iter-component-iterator.result
    c.loop-component.component-iterator c.next.new.self c.next.result (search rules) (search rules)
    c.loop-component.yielded_by c.in-None.is c.next.ensures.steps in
    let all = all_pairs c.args.components.now (map number values) (length c.loop-component.yielded)
    (omega (arith, turns, length-map values number, length-map texts string_bytes, ap length c.as_slice.ensures)) in
    let part : List (List ℕ) → List UnitEquation → UnitPart = λ unknowns equations. record { unknowns = unknowns; equations = equations } in
    let of : List (List ℕ × ℕ) → List UnitEquation = λ pairs. (reactor g.F.Field.modulus c.args.unit.now c.args.inlet.now c.args.outlet.now pairs).equations in
    IfOk-weaker c.with_unknown.result _ _ (λ made is. is
    ∙ (λ t. part (c.in_ok-dotted.ensures t ∷ []) ((c.equations-2.view_is ∙ c.loop-component.invariant
    ∙ ap of all) t))) c.with_unknown.ensures
