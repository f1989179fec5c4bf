use Rattle.std.proofs.Common.{◌≡◌, All, map, get_or, refl, sym, ap, subst, ◌∙◌}
use Rattle.std.specs.String.{string_bytes}
use Rattle.std.proofs.lemmas.List.{get_or_default}
use Rattle.netlist_devices.specs.Circuits.{CircuitParts}
use Rattle.netlist_devices.specs.Devices.{Device}
use Rattle.netlist_reader.specs.Numbers.{DevicePlaces, HasDevicePlaces, IsNode, IsSeen, node_named, numbered_of}
use Rattle.netlist_reader.proofs.PlacesOf.{has_places, nodes_seen}
use Rattle.netlist_reader.proofs.places.Places.of.Goals as goal

pub numbers_of-requires : goal.numbers_of-requires
numbers_of-requires g c =
    let parts = c.args.circuit.now in
    let d = c.index-device.result.now in
    let is : d ≡ get_or parts.devices c.args.k d = c.index-device.ensures
    ∙ ap (λ (parts : CircuitParts). get_or parts.devices c.args.k d) c.circuit.view_is in
    let texts : map string_bytes c.deref.result.now ≡ d.nodes = ap (map string_bytes) c.deref.ensures.value ∙ ap (λ (d : Device). d.nodes) c.device.view_is in
    subst (All (IsSeen c.circuit.inside.nodes)) (sym texts)
    (subst (λ nodes. All (IsSeen nodes) d.nodes) (sym (ap (λ (parts : CircuitParts). parts.nodes) c.circuit.view_is))
    (nodes_seen g.F.Field.modulus parts c.requires.circuit c.requires.sourced c.args.k d c.requires.within is))

pub returns : goal.returns
returns g c = λ other there.
    let parts = c.args.circuit.now in
    let d = c.index-device.result.now in
    let is : d ≡ get_or parts.devices c.args.k d = c.index-device.ensures
    ∙ ap (λ (parts : CircuitParts). get_or parts.devices c.args.k d) c.circuit.view_is in
    let same = ap (λ (parts : CircuitParts). parts.nodes) c.circuit.view_is in
    let texts : map string_bytes c.deref.result.now ≡ d.nodes = ap (map string_bytes) c.deref.ensures.value ∙ ap (λ (d : Device). d.nodes) c.device.view_is in
    let numbers = c.in_ok-numbers_of.field-0.items in
    let places : DevicePlaces = record {
      equations = get_or c.args.equations.now c.args.k 0;
      unknowns = get_or c.args.unknowns.now c.args.k 0;
      nodes = numbers;
      source = c.source_current.result;
    } in
    subst (λ device. HasDevicePlaces (numbered_of parts.devices) device places)
    (is ∙ get_or_default parts.devices c.args.k d other c.requires.within ∙ sym there)
    (has_places g.F.Field.modulus parts c.requires.circuit c.requires.sourced c.args.k d c.requires.within is places c.args.equations.now c.args.unknowns.now
    c.requires.equations c.requires.unknowns refl refl
    (ap (λ nodes. map (node_named nodes) numbers) (sym same) ∙ c.in_ok-numbers_of.ensures.named ∙ texts)
    (subst (λ nodes. All (IsNode nodes) numbers) same c.in_ok-numbers_of.ensures.within) c.source_current.ensures)
