use Rattle.std.proofs.Common.{◌≡◌, ℕ, ◌+◌, ◌<◌, List, ◌++◌, ◌∷◌, [], codes, length, map, get_or, refl, sym, ap, subst, ◌∙◌, arith, rules, length-append}
use Rattle.std.proofs.lemmas.List.{length-map}
use Rattle.std.proofs.lemmas.List.FromFn.{length-enumerate_from}
use Rattle.std.specs.String.{string_bytes}
use Rattle.unit_equations.specs.Kinds.{but_last, fixed_split, flow, outlet_word, own_for}
use Rattle.unit_equations.specs.Parts.{equation, less, times}
use Rattle.unit_equations.proofs.NumberedPairs.{turn_of, turns_all}
use Rattle.unit_equations.proofs.Pairing.{all_pairs, but_last-seen, next_pair, numbered-is, numbered-within, seen-is, seen-within}
use Rattle.unit_equations.proofs.equation_list.EquationList.fixed_splits.Goals as goal

pub loop-place-preserved : goal.loop-place-preserved
loop-place-preserved g c =
    let texts = c.but_last.result.now in
    let values = c.args.fractions.now in
    let number = g.F.Field.number in
    let yielded = c.loop-place.yielded in
    let turn = turn_of texts values yielded c.into_iter-place-iterator.result c.loop-place.place-iterator
    c.next.new.self c.next.result (search rules) (search rules) (search rules) c.loop-place.yielded_by
    c.in-Some.place c.in-Some.outlet c.in-Some.fraction c.in-Some.is c.next.ensures.steps in
    let n = length yielded in
    let keys = but_last (map string_bytes c.args.outlets.now) in
    let text = c.in-Some.outlet.now in
    let value = c.in-Some.fraction.now in
    let same = sym (but_last-seen string_bytes c.args.outlets.now texts c.but_last.ensures) in
    let next : ℕ × List ℕ = (n + 1, string_bytes text) in
    let name = c.in_ok-name-2.ensures
    ∙ ap (λ name. outlet_word c.args.version name (c.in-Some.place + 1)) c.in_ok-name.ensures
    ∙ ap (λ place. outlet_word c.args.version (own_for (codes "tee") c.args.unit.now c.args.component.now) (place + 1)) turn.number in
    let put = c.in_ok-fixed_split.ensures
    ∙ (λ t. c.loop-place.self ++ equation (name t)
    (times 1 (flow (c.deref.ensures t) c.args.component.now) ∷ less g.F.Field.modulus (number value) (flow c.args.inlet.now c.args.component.now)) ∷ []) in
    next_pair (fixed_split g.F.Field.modulus c.args.version c.args.unit.now c.args.inlet.now c.args.component.now) keys
    (map number values) c.args.self.now c.loop-place.self c.fixed_split.new.self
    n (length (yielded ++ (c.in-Some.place, (c.in-Some.outlet, c.in-Some.fraction)) ∷ [])) next (number value)
    (subst (λ (ks : List (ℕ × List ℕ)). n < length ks) same (numbered-within string_bytes texts n text turn.first_within turn.first))
    (seen-within number values n value turn.second_within turn.second (map number values) refl)
    (subst (λ ks. get_or ks n next ≡ next) same (numbered-is string_bytes texts n text turn.first_within turn.first))
    (seen-is number values n value turn.second_within turn.second (map number values) refl)
    (length-append yielded _) c.loop-place.invariant put

pub returns : goal.returns
returns g c =
    let texts = c.but_last.result.now in
    let values = c.args.fractions.now in
    let number = g.F.Field.number in
    let keys = but_last (map string_bytes c.args.outlets.now) in
    let turns = turns_all texts values c.loop-place.yielded c.into_iter-place-iterator.result
    c.loop-place.place-iterator c.next.new.self c.next.result (search rules) (search rules) (search rules)
    c.loop-place.yielded_by c.in-None.is c.next.ensures.steps in
    let long : length keys ≡ length texts = ap length
    (but_last-seen string_bytes c.args.outlets.now texts c.but_last.ensures)
    ∙ length-enumerate_from 1 (map string_bytes texts) ∙ length-map texts string_bytes in
    c.loop-place.invariant
    ∙ ap (λ pairs. c.args.self.now ++ map (fixed_split g.F.Field.modulus c.args.version c.args.unit.now c.args.inlet.now c.args.component.now) pairs)
    (all_pairs keys (map number values) (length c.loop-place.yielded) (omega (arith, turns, long, length-map values number)))
