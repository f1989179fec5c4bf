use Rattle.std.proofs.Common.{◌≡◌, ◌++◌, length, map, get_or, ap, ◌∙◌, arith}
use Rattle.std.specs.String.{string_bytes}
use Rattle.term_model.specs.Terms.{dotted}
use Rattle.term_model.proofs.Pushing.{texts_more}
use Rattle.netlist_devices.specs.Circuits.{CircuitParts}
use Rattle.netlist_devices.specs.Devices.{Device}
use Rattle.netlist_reader.specs.Naming.{own_words}
use Rattle.netlist_reader.proofs.side.push_devices.Goals as goal

pub loop-device-preserved : goal.loop-device-preserved
loop-device-preserved g c =
    let devices = c.args.circuit.now.devices in
    let same : c.deref-device-items.result.now ≡ devices = c.deref-device-items.ensures.value ∙ ap (λ (parts : CircuitParts). parts.devices)
    c.circuit.view_is in
    let index = c.loop-device.device-index in
    texts_more (λ (device : Device). map (λ word. dotted word device.name) (own_words c.args.side device.kind))
    _ _ (map string_bytes c.args.names.now.items) devices index c.device-item.result
    (omega (arith, c.loop-device-test.true, ap length same)) c.loop-device.invariant
    (c.in_ok-push_own.ensures
    ∙ ap (λ (device : Device). map string_bytes c.loop-device.names.items ++ map (λ word. dotted word device.name) (own_words c.args.side device.kind))
    (c.device-item.is ∙ ap (λ all. get_or all index c.device-item.result) same))
