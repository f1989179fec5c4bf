use Rattle.std.proofs.Common.{◌∙◌, ap, sym, subst}
use Rattle.std.specs.List.{IsDistinct}
use Rattle.std.specs.Str.{bytes_eq}
use Rattle.netlist_devices.specs.Devices.{Device, device_names}
use Rattle.netlist_devices.specs.Circuits.{CircuitParts}
use Rattle.netlist_devices.specs.Rules.{is_source, is_voltage}
use Rattle.netlist_devices.proofs.SourceLaws.{source_found, source_lost}
use Rattle.netlist_devices.proofs.circuit.Circuit.is_source.Goals as goal

pub returns-in-Some : goal.returns-in-Some
returns-in-Some g c =
    let devices = c.self.inside.devices.items in
    let same = ap (λ (parts : CircuitParts). parts.devices) c.self.view_is in
    let found = source_found devices c.self.inside.names c.args.name.now c.in-Some.place c.index.result.now
    (subst (λ list. IsDistinct bytes_eq (device_names list)) (sym same) c.requires.distinct)
    (ap (λ (parts : CircuitParts). parts.names) c.self.view_is ∙ c.requires.names ∙ ap device_names (sym same)) (sym c.in-Some.ensures.place) in
    c.is_voltage.ensures ∙ ap (λ (d : Device). is_voltage d.kind) (c.behind-self.view_is ∙ c.index.ensures) ∙ found.1
    ∙ ap (λ list. is_source list c.args.name.now) same

pub returns-in-None : goal.returns-in-None
returns-in-None g c =
    source_lost c.args.self.now.devices c.self.inside.names c.args.name.now
    (ap (λ (parts : CircuitParts). parts.names) c.self.view_is ∙ c.requires.names) (sym c.in-None.ensures.place)
