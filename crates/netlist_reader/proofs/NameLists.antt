-- The names of a circuit's unknowns, and those of its equations, are lists of names.
use Rattle.std.proofs.Common.{◌≡◌, ℕ, true, List, [], map, filter, not, codes, refl}
use Rattle.std.specs.List.{AllByRecursion, flat_map, list_all}
use Rattle.mixed_model.specs.Names.{IsNameList}
use Rattle.line_lexer.specs.Names.{is_node}
use Rattle.term_model.specs.Terms.{dotted}
use Rattle.term_model.proofs.Labels.{is_good, node-part, name-part}
use Rattle.term_model.proofs.Lists.{all-append, all-flat_map, all-filter, all-see, Differ, differ-append, differ-see}
use Rattle.term_model.proofs.Lists.{differ-distinct, distinct-differ, all_at, at_all}
use Rattle.term_model.proofs.DottedNames.{MayStand, dotted-apart, dotted-differ, dotted-labels}
use Rattle.term_model.proofs.OwnNames.{own-differ, own-labels}
use Rattle.netlist_devices.specs.declared.kind.DeviceKind.{DeviceKind}
use Rattle.netlist_devices.specs.declared.kind.DeviceKind.TheVariants.{Passive, Voltage, Current, VoltageByVoltage}
use Rattle.netlist_devices.specs.declared.kind.DeviceKind.TheVariants.{CurrentByVoltage, CurrentByCurrent}
use Rattle.netlist_devices.specs.declared.kind.DeviceKind.TheVariants.{VoltageByCurrent, Opamp, Transformer, Gyrator}
use Rattle.netlist_devices.specs.Devices.{Device, device_names, is_ground, nodes_of}
use Rattle.netlist_devices.specs.EquationNames.{equation_words, unknown_words, own_names, equations_of, unknowns_of}
use Rattle.netlist_devices.specs.Circuits.{IsDevice, IsCircuit, CircuitParts}
use Rattle.netlist_reader.proofs.NamesDiffer.{equations-dotted, unknowns-dotted, kcl-apart, u-apart}

-- words of one kind differ, before any name
abbrev WordsDiffer : (DeviceKind → List (List ℕ)) → Type 0
WordsDiffer words = (kind : DeviceKind) (name : List ℕ) → Differ (map (λ word. dotted word name) (words kind))

equations-differ : WordsDiffer equation_words
equations-differ Passive name = (refl, (refl, tt))
equations-differ Voltage name = (refl, (refl, tt))
equations-differ Current name = (refl, (refl, tt))
equations-differ VoltageByVoltage name = (refl, (refl, (refl, tt)))
equations-differ CurrentByVoltage name = (refl, (refl, (refl, tt)))
equations-differ CurrentByCurrent name = (refl, (refl, tt))
equations-differ VoltageByCurrent name = (refl, (refl, tt))
equations-differ Opamp name = (refl, tt)
equations-differ Transformer name = (refl, (refl, (refl, (refl, tt))))
equations-differ Gyrator name = (refl, (refl, (refl, (refl, tt))))

unknowns-differ : WordsDiffer unknown_words
unknowns-differ Passive name = (refl, (refl, tt))
unknowns-differ Voltage name = (refl, (refl, tt))
unknowns-differ Current name = (refl, (refl, tt))
unknowns-differ VoltageByVoltage name = (refl, (refl, (refl, tt)))
unknowns-differ CurrentByVoltage name = (refl, (refl, (refl, tt)))
unknowns-differ CurrentByCurrent name = (refl, (refl, tt))
unknowns-differ VoltageByCurrent name = (refl, (refl, tt))
unknowns-differ Opamp name = (refl, tt)
unknowns-differ Transformer name = (refl, (refl, (refl, (refl, tt))))
unknowns-differ Gyrator name = (refl, (refl, (refl, (refl, tt))))

pub nodes-distinct : (devices : List Device) → Differ (nodes_of devices)
nodes-distinct devices = differ-see [] (filter (λ node. not (is_ground node)) (flat_map (λ device. device.nodes) devices)) tt

pub equations-distinct : (devices : List Device) → Differ (device_names devices) → Differ (equations_of devices)
equations-distinct devices differ =
    differ-append (map (dotted (codes "kcl")) (nodes_of devices)) (own_names equation_words devices)
    (dotted-differ (codes "kcl") (λ name. refl) (nodes_of devices) (nodes-distinct devices))
    (own-differ (λ (device : Device). device.name) (λ (device : Device). equation_words device.kind)
    (λ device. equations-dotted device.kind) (λ device. equations-differ device.kind device.name) devices differ)
    (dotted-apart (codes "kcl") (own_names equation_words devices) (kcl-apart devices) (nodes_of devices))

pub unknowns-distinct : (devices : List Device) → Differ (device_names devices) → Differ (unknowns_of devices)
unknowns-distinct devices differ =
    differ-append (map (dotted (codes "u")) (nodes_of devices)) (own_names unknown_words devices)
    (dotted-differ (codes "u") (λ name. refl) (nodes_of devices) (nodes-distinct devices))
    (own-differ (λ (device : Device). device.name) (λ (device : Device). unknown_words device.kind)
    (λ device. unknowns-dotted device.kind) (λ device. unknowns-differ device.kind device.name) devices differ)
    (dotted-apart (codes "u") (own_names unknown_words devices) (u-apart devices) (nodes_of devices))

-- the words are good
equations-good : (kind : DeviceKind) → list_all is_good (equation_words kind) ≡ true
equations-good Passive = refl
equations-good Voltage = refl
equations-good Current = refl
equations-good VoltageByVoltage = refl
equations-good CurrentByVoltage = refl
equations-good CurrentByCurrent = refl
equations-good VoltageByCurrent = refl
equations-good Opamp = refl
equations-good Transformer = refl
equations-good Gyrator = refl

unknowns-good : (kind : DeviceKind) → list_all is_good (unknown_words kind) ≡ true
unknowns-good Passive = refl
unknowns-good Voltage = refl
unknowns-good Current = refl
unknowns-good VoltageByVoltage = refl
unknowns-good CurrentByVoltage = refl
unknowns-good CurrentByCurrent = refl
unknowns-good VoltageByCurrent = refl
unknowns-good Opamp = refl
unknowns-good Transformer = refl
unknowns-good Gyrator = refl

nodes-good : (p : ℕ) (devices : List Device) → AllByRecursion (IsDevice p) devices → AllByRecursion (λ node. is_node node ≡ true) (nodes_of devices)
nodes-good p devices all =
    all-see (λ node. is_node node ≡ true) [] (filter (λ node. not (is_ground node)) (flat_map (λ device. device.nodes) devices)) tt
    (all-filter (λ node. is_node node ≡ true) (λ node. not (is_ground node)) (flat_map (λ device. device.nodes) devices)
    (all-flat_map (IsDevice p) (λ node. is_node node ≡ true) (λ device. device.nodes) devices
    (λ device is. at_all (λ node. is_node node ≡ true) device.nodes is.nodes) all))

node-label : (word : List ℕ) → is_good word ≡ true → (p : ℕ) (devices : List Device) →
    AllByRecursion (IsDevice p) devices → AllByRecursion MayStand (map (dotted word) (nodes_of devices))
node-label word good p devices all =
    dotted-labels word good (λ node. is_node node ≡ true) node-part (nodes_of devices) (nodes-good p devices all)

pub equations-listed : (p : ℕ) (parts : CircuitParts) → IsCircuit p parts → IsNameList (equations_of parts.devices)
equations-listed p parts is =
    let devices = parts.devices in
    let all = at_all (IsDevice p) devices is.devices in
    record {
      labels = all_at MayStand (equations_of devices)
          (all-append MayStand (map (dotted (codes "kcl")) (nodes_of devices)) (own_names equation_words devices)
          (node-label (codes "kcl") refl p devices all) (own-labels (IsDevice p) (λ (device : Device). device.name)
          (λ (device : Device). equation_words device.kind) (λ device. equations-good device.kind)
          (λ device is. name-part device.name is.name) devices all));
      few = is.few_equations;
      distinct = differ-distinct (equations_of devices) (equations-distinct devices (distinct-differ (device_names devices) is.distinct));
    }

pub unknowns-listed : (p : ℕ) (parts : CircuitParts) → IsCircuit p parts → IsNameList (unknowns_of parts.devices)
unknowns-listed p parts is =
    let devices = parts.devices in
    let all = at_all (IsDevice p) devices is.devices in
    record {
      labels = all_at MayStand (unknowns_of devices)
          (all-append MayStand (map (dotted (codes "u")) (nodes_of devices)) (own_names unknown_words devices)
          (node-label (codes "u") refl p devices all) (own-labels (IsDevice p) (λ (device : Device). device.name)
          (λ (device : Device). unknown_words device.kind) (λ device. unknowns-good device.kind)
          (λ device is. name-part device.name is.name) devices all));
      few = is.few_unknowns;
      distinct = differ-distinct (unknowns_of devices) (unknowns-distinct devices (distinct-differ (device_names devices) is.distinct));
    }
