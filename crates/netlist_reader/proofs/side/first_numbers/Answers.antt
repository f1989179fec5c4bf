use Rattle.std.proofs.Common.{◌≡◌, ◌<◌, ◌+◌, length, get_or, sym, ap, ◌∙◌, arith}
use Rattle.std.proofs.lemmas.List.{length-append, length-map}
use Rattle.netlist_devices.specs.Circuits.{CircuitParts}
use Rattle.netlist_devices.specs.Devices.{Device}
use Rattle.netlist_reader.specs.Naming.{own_words}
use Rattle.netlist_reader.proofs.Numbering.{few_before, few_on, firsts_more, next_first}
use Rattle.netlist_reader.proofs.side.first_numbers.Goals as goal

pub loop-device-preserved : goal.loop-device-preserved
loop-device-preserved g c =
    let devices = c.args.circuit.now.devices in
    let words = own_words c.args.side in
    let same : c.deref-device-items.result.now ≡ devices = c.deref-device-items.ensures.value ∙ ap (λ (parts : CircuitParts). parts.devices)
    c.circuit.view_is in
    let i = c.loop-device.device-index in
    let d = c.device-item.result in
    let within : i < length devices = omega (arith, c.loop-device-test.true, ap length same) in
    let is : d ≡ get_or devices i d = c.device-item.is ∙ ap (λ all. get_or all i d) same in
    let before = c.loop-device.invariant in
    let kind = ap (λ (device : Device). device.kind) c.device.view_is in
    let count : length c.own_words.result.now ≡ length (words d.kind) =
    sym (length-map c.own_words.result.now (λ word. word.now)) ∙ ap length (c.own_words.ensures ∙ ap words kind) in
    record {
      each = ap length c.in_ok-push.ensures.items ∙ length-append c.loop-device.firsts.items _ ∙ ap (λ n. n + 1) before.each;
      number = λ k less. ap (λ all. get_or all k 0) c.in_ok-push.ensures.items
          ∙ firsts_more words devices c.loop-device.firsts.items c.loop-device.next i before.each before.number before.next k less;
      next = omega (arith, before.next, count, next_first words devices i d within is);
    }

pub overflow_add-next : goal.overflow_add-next
overflow_add-next g c =
    let devices = c.args.circuit.now.devices in
    let words = own_words c.args.side in
    let same : c.deref-device-items.result.now ≡ devices = c.deref-device-items.ensures.value ∙ ap (λ (parts : CircuitParts). parts.devices)
    c.circuit.view_is in
    let i = c.loop-device.device-index in
    let d = c.device-item.result in
    let within : i < length devices = omega (arith, c.loop-device-test.true, ap length same) in
    let is : d ≡ get_or devices i d = c.device-item.is ∙ ap (λ all. get_or all i d) same in
    let kind = ap (λ (device : Device). device.kind) c.device.view_is in
    let count : length c.own_words.result.now ≡ length (words d.kind) =
    sym (length-map c.own_words.result.now (λ word. word.now)) ∙ ap length (c.own_words.ensures ∙ ap words kind) in
    let few = few_on g.F.Field.modulus c.args.circuit.now c.requires c.args.side in
    omega (arith, c.loop-device.invariant.next, count, few_before words devices i d within is, few)
