use Rattle.std.proofs.Common.{◌≡◌, ◌<◌, [], Some, length, map, sym, ap, subst, ◌∙◌, arith}
use Rattle.std.specs.List.{slice_get}
use Rattle.std.specs.String.{string_bytes}
use Rattle.std.proofs.lemmas.Option.{get_or_from_slice_get}
use Rattle.term_model.specs.Terms.{dotted}
use Rattle.term_model.proofs.Pushing.{one_text_more}
use Rattle.netlist_devices.specs.Circuits.{CircuitParts}
use Rattle.netlist_reader.proofs.side.push_nodes.Goals as goal

pub loop-node-preserved : goal.loop-node-preserved
loop-node-preserved g c =
    let nodes = c.args.circuit.now.nodes in
    let same : c.circuit.inside.nodes ≡ nodes = ap (λ (parts : CircuitParts). parts.nodes) c.circuit.view_is in
    let within : c.loop-node.node < length nodes = omega (arith, c.loop-node-test.true, c.len-node-end.ensures.count, ap length same) in
    let got = subst (λ names. slice_get names c.loop-node.node ≡ Some c.get.result.now) same c.get.ensures in
    ap (map string_bytes) c.in_ok-push.ensures.items
    ∙ one_text_more string_bytes (dotted c.args.word.now) c.loop-node.names.items c.in_ok-dotted.field-0
    (map string_bytes c.args.names.now.items) nodes c.loop-node.node [] within c.loop-node.invariant
    (c.in_ok-dotted.ensures ∙ ap (dotted c.args.word.now) (sym (get_or_from_slice_get nodes c.loop-node.node c.get.result.now [] got)))
