use Rattle.std.proofs.Common.{◌≡◌, true, false, Some, None, position, sym, ap, ◌∙◌, arith}
use Rattle.std.specs.Str.{bytes_eq}
use Rattle.netlist_devices.specs.Circuits.{CircuitParts}
use Rattle.netlist_devices.specs.Devices.{Device}
use Rattle.netlist_devices.proofs.SourceLaws.{source_lost}
use Rattle.netlist_reader.proofs.Numbering.{found_few, source_at}
use Rattle.netlist_reader.proofs.places.source_current.Goals as goal

pub overflow_add-result : goal.overflow_add-result
overflow_add-result g c =
    let parts = c.args.circuit.now in
    let same = ap (λ (parts : CircuitParts). parts.names) c.circuit.view_is in
    let found : position (bytes_eq c.deref.result.now) parts.names ≡ Some c.in-Some.source =
    (λ k. position (bytes_eq c.deref.result.now) (sym same k)) ∙ sym c.find.ensures.place ∙ c.in-Some.is in
    let few = found_few g.F.Field.modulus parts c.requires.circuit c.args.unknowns.now c.requires.unknowns c.deref.result.now c.in-Some.source found in
    omega (arith, few)

pub returns-in-Some : goal.returns-in-Some
returns-in-Some g c = λ has.
    let parts = c.args.circuit.now in
    let same = ap (λ (parts : CircuitParts). parts.names) c.circuit.view_is in
    let name = c.deref.ensures ∙ ap (λ (d : Device). d.source) c.device.view_is in
    let found : position (bytes_eq c.args.device.now.source) parts.names ≡ Some c.in-Some.source =
    (λ k. position (bytes_eq (sym name k)) (sym same k)) ∙ sym c.find.ensures.place ∙ c.in-Some.is in
    source_at g.F.Field.modulus parts c.requires.circuit c.args.unknowns.now c.requires.unknowns c.args.device.now.source c.in-Some.source found
    (c.requires.sourced has)

pub returns-in-None : goal.returns-in-None
returns-in-None g c = λ has.
    let parts = c.args.circuit.now in
    let same = ap (λ (parts : CircuitParts). parts.names) c.circuit.view_is in
    let name = c.deref.ensures ∙ ap (λ (d : Device). d.source) c.device.view_is in
    let lost : position (bytes_eq c.args.device.now.source) parts.names ≡ None =
    (λ k. position (bytes_eq (sym name k)) (sym same k)) ∙ sym c.find.ensures.place ∙ c.in-None.is in
    let both : false ≡ true = source_lost parts.devices parts.names c.args.device.now.source c.requires.circuit.names lost ∙ c.requires.sourced has in
    let f : ⊥ = cc in absurd f
