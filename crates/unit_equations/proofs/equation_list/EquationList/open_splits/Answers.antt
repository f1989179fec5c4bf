use Rattle.std.proofs.Common.{◌+◌, ◌<◌, ◌++◌, ◌∷◌, [], length, map, sym, ap, refl, ◌∙◌, arith}
use Rattle.std.specs.List.{enumerate_from}
use Rattle.std.specs.String.{string_bytes}
use Rattle.std.proofs.lemmas.List.{length-map, take_all}
use Rattle.std.proofs.lemmas.List.FromFn.{length-enumerate_from}
use Rattle.unit_equations.specs.Kinds.{flow, outlet_word, open_split}
use Rattle.unit_equations.specs.Parts.{equation, open_at}
use Rattle.unit_equations.proofs.Pairing.{but_last-seen, next_one, numbered-is, numbered-within}
use Rattle.unit_equations.proofs.equation_list.EquationList.open_splits.Goals as goal

pub loop-place-preserved : goal.loop-place-preserved
loop-place-preserved g c =
    let item = c.outlet-item.result in
    let n = c.loop-place.place in
    let items = c.but_last-outlet-items.result.now in
    let within : n < length items = c.loop-place-test.true in
    let put = c.in_ok-open_split.ensures
    ∙ (λ t. c.loop-place.self ++ equation ((c.in_ok-name-2.ensures ∙ ap (λ name. outlet_word c.args.version name (n + 1)) c.in_ok-name.ensures) t)
    (open_at (flow c.args.inlet.now c.args.component.now) ∷ open_at (flow (c.deref.ensures t) c.args.component.now) ∷ []) ∷ []) in
    next_one (open_split c.args.version c.args.unit.now c.args.inlet.now c.args.component.now)
    (enumerate_from 1 (map string_bytes items)) c.args.self.now c.loop-place.self c.open_split.new.self n
    (n + 1) (n + 1, string_bytes item)
    (numbered-within string_bytes items n item within c.outlet-item.is)
    (numbered-is string_bytes items n item within c.outlet-item.is) refl c.loop-place.invariant put

pub returns : goal.returns
returns g c =
    let items = c.but_last-outlet-items.result.now in
    let numbers = enumerate_from 1 (map string_bytes items) in
    c.loop-place.invariant
    ∙ ap (λ all. c.args.self.now ++ map (open_split c.args.version c.args.unit.now c.args.inlet.now c.args.component.now) all)
    (take_all c.loop-place.place numbers (omega (
      arith,
      c.loop-place-test.false,
      length-enumerate_from 1
          (map string_bytes items),
      length-map items string_bytes,
    ))
    ∙ sym (but_last-seen string_bytes c.args.outlets.now items c.but_last-outlet-items.ensures))
