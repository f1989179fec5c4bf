use Rattle.std.proofs.Common.{◌++◌, [], Global, String, map, sym, ap, ◌∙◌}
use Rattle.std.specs.List.{flat_map}
use Rattle.std.specs.String.{string_bytes}
use Rattle.std.proofs.lemmas.List.{take_all}
use Rattle.std.proofs.lemmas.List.Folds.{flat_map-map}
use Rattle.term_model.proofs.Pushing.{texts_more}
use Rattle.unit_equations.specs.Kinds.{flow}
use Rattle.flowsheet_reader.proofs.filling.flows.Goals as goal

pub loop-stream-preserved : goal.loop-stream-preserved
loop-stream-preserved c =
    texts_more (λ (stream : String Global). map (flow (string_bytes stream)) c.args.components.now)
    _ _ [] c.as_slice-stream-items.result.now c.loop-stream.stream-index c.stream-item.result
    c.loop-stream-test.true c.loop-stream.invariant
    (c.in_ok-push_flows.ensures
    ∙ ap (λ stream. map string_bytes c.loop-stream.names.items ++ map (flow stream) c.args.components.now) (c.deref.ensures ∙ ap string_bytes c.stream-item.is))

pub returns : goal.returns
returns c =
    let items = c.as_slice-stream-items.result.now in
    c.loop-stream.invariant
    ∙ ap (flat_map (λ (stream : String Global). map (flow (string_bytes stream)) c.args.components.now))
    (take_all c.loop-stream.stream-index items c.loop-stream-test.false)
    ∙ sym (flat_map-map (λ stream. map (flow stream) c.args.components.now) string_bytes items)
    ∙ ap (flat_map (λ stream. map (flow stream) c.args.components.now)) c.as_slice-stream-items.ensures
