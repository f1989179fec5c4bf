use Rattle.std.proofs.Common.{ℕ, List, ◌++◌, Global, String, map, sym, ap, ◌∙◌}
use Rattle.std.specs.String.{string_bytes}
use Rattle.std.proofs.lemmas.List.{take_all}
use Rattle.std.proofs.lemmas.Simd.{map-map}
use Rattle.term_model.proofs.Pushing.{one_text_more}
use Rattle.unit_equations.specs.Kinds.{flow}
use Rattle.flowsheet_reader.proofs.filling.push_flows.Goals as goal

pub loop-component-preserved : goal.loop-component-preserved
loop-component-preserved c =
    ap (map string_bytes) c.in_ok-push.ensures.items
    ∙ one_text_more string_bytes (λ (component : String Global). flow c.args.stream.now
    (string_bytes component)) c.loop-component.names.items c.in_ok-flow.field-0
    (map string_bytes c.args.names.now.items) c.as_slice-component-items.result.now c.loop-component.component-index c.component-item.result
    c.loop-component-test.true c.loop-component.invariant
    (c.in_ok-flow.ensures ∙ ap (flow c.args.stream.now) c.deref.ensures
    ∙ ap (λ (component : String Global). flow c.args.stream.now (string_bytes component)) c.component-item.is)

pub returns : goal.returns
returns c =
    let items = c.as_slice-component-items.result.now in
    let flow_of : String Global → List ℕ = λ component. flow c.args.stream.now (string_bytes component) in
    c.loop-component.invariant
    ∙ ap (λ taken. map string_bytes c.args.names.now.items ++ map flow_of taken) (take_all c.loop-component.component-index items c.loop-component-test.false)
    ∙ ap (λ more. map string_bytes c.args.names.now.items ++ more)
    (sym (map-map (flow c.args.stream.now) string_bytes items)
    ∙ ap (map (flow c.args.stream.now)) c.as_slice-component-items.ensures)
