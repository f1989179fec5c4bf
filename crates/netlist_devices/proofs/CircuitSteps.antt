-- One device more in a circuit.
use Rattle.std.proofs.Common.{◌≡◌, ℕ, ◌+◌, ◌<◌, ◌≤◌, Bool, true, false, not, ◌&&◌, All, List, [], ◌∷◌, ◌++◌, length}
use Rattle.std.proofs.Common.{map, codes, Some, None, Ok, Err, inl, inr, refl, sym, ap, subst, ◌∙◌, arith}
use Rattle.std.proofs.Common.{length-append}
use Rattle.std.specs.Prelude.{nat_le}
use Rattle.std.specs.List.{IsDistinct}
use Rattle.std.specs.Str.{bytes_eq}
use Rattle.std.specs.Cmp.Lexicographic.{nat_list_eq_equiv}
use Rattle.std.proofs.lemmas.Bool.Decides.{nat_tests}
use Rattle.std.proofs.lemmas.List.{append-nil, length-map, map-append}
use Rattle.std.proofs.lemmas.List.Elements.{All-push}
use Rattle.std.proofs.lemmas.Map.Keys.{IsDistinct-push}
use Rattle.std.proofs.lemmas.Grind.{flat_map-append}
use Rattle.refusals.specs.declared.Why.TheVariants.{Twice, TooMany}
use Rattle.mixed_model.specs.Names.{has_name}
use Rattle.term_model.specs.Terms.{dotted}
use Rattle.netlist_devices.specs.declared.kind.DeviceKind.{DeviceKind}
use Rattle.netlist_devices.specs.declared.kind.DeviceKind.TheVariants.{Passive, Voltage, Current, VoltageByVoltage}
use Rattle.netlist_devices.specs.declared.kind.DeviceKind.TheVariants.{CurrentByVoltage, CurrentByCurrent}
use Rattle.netlist_devices.specs.declared.kind.DeviceKind.TheVariants.{VoltageByCurrent, Opamp, Transformer, Gyrator}
use Rattle.netlist_devices.specs.Devices.{Device, device_names, nodes_of}
use Rattle.netlist_devices.specs.EquationNames.{equations_of, equation_words, own_names, unknowns_of, unknown_words}
use Rattle.netlist_devices.specs.Rules.{new_rule, place_rule, room_rule, unless}
use Rattle.netlist_devices.specs.Circuits.{IsCircuit, IsDevice, CircuitParts}
use Rattle.refusals.specs.Faults.{OnBroken}
use Rattle.refusals.specs.declared.fault.Fault.{Fault}
use Rattle.refusals.specs.declared.fault.Fault.TheVariants.{Broken, NoMemory}
use Rattle.netlist_devices.specs.ReaderStates.{AddsDeviceName, TakesRoom, has_room, see_nodes}
use Rattle.line_reader.proofs.Faults.{on_broken}
use Rattle.line_reader.proofs.Rules.{first_broken, first_kept}
use Rattle.netlist_devices.proofs.DeviceSteps.{unless_false}
use Rattle.netlist_devices.proofs.NodeSteps.{nodes_of-push}

-- the names of one device more
pub names-push : (devices : List Device) (device : Device) → device_names (devices ++ device ∷ []) ≡ device_names devices ++ device.name ∷ []
names-push devices device = map-append (λ (d : Device). d.name) devices (device ∷ [])

-- how many own names there are with one device more
pub own_names-push : (words : DeviceKind → List (List ℕ)) (devices : List Device) (device : Device) →
    length (own_names words (devices ++ device ∷ [])) ≡ length (own_names words devices) + length (words device.kind)
own_names-push words devices device =
    let own = λ (d : Device). map (λ word. dotted word d.name) (words d.kind) in
    ap length (flat_map-append own devices (device ∷ [])) ∙ length-append (own_names words devices) (own device ++ [])
    ∙ ap (λ more. length (own_names words devices) + length more) (append-nil (own device))
    ∙ ap (λ n. length (own_names words devices) + n) (length-map (words device.kind) (λ word. dotted word device.name))

some_equation : (kind : DeviceKind) → 1 ≤ length (equation_words kind)
some_equation Passive = omega arith
some_equation Voltage = omega arith
some_equation Current = omega arith
some_equation VoltageByVoltage = omega arith
some_equation CurrentByVoltage = omega arith
some_equation CurrentByCurrent = omega arith
some_equation VoltageByCurrent = omega arith
some_equation Opamp = omega arith
some_equation Transformer = omega arith
some_equation Gyrator = omega arith

-- each device has an equation of its own
pub own_each : (devices : List Device) → length devices ≤ length (own_names equation_words devices)
own_each [] = omega arith
own_each (device ∷ devices) =
    let own = map (λ word. dotted word device.name) (equation_words device.kind) in
    omega (
      arith,
      own_each devices,
      some_equation device.kind,
      length-append own
          (own_names equation_words devices),
      length-map (equation_words device.kind) (λ word. dotted word device.name),
    )

-- how many equations and unknowns there are
equations-count : (devices : List Device) → length (equations_of devices) ≡ length (nodes_of devices) + length (own_names equation_words devices)
equations-count devices = length-append (map (dotted (codes "kcl")) (nodes_of devices))
    (own_names equation_words devices) ∙ ap (λ n. n + length (own_names equation_words devices))
    (length-map (nodes_of devices) (dotted (codes "kcl")))

unknowns-count : (devices : List Device) → length (unknowns_of devices) ≡ length (nodes_of devices) + length (own_names unknown_words devices)
unknowns-count devices = length-append (map (dotted (codes "u")) (nodes_of devices))
    (own_names unknown_words devices) ∙ ap (λ n. n + length (own_names unknown_words devices))
    (length-map (nodes_of devices) (dotted (codes "u")))

-- the rule of room by the numbers
pub room_is : (devices : List Device) (device : Device) (nodes : List (List ℕ)) (equations unknowns : ℕ) → nodes ≡ see_nodes (nodes_of devices) device.nodes
    → equations ≡ length (own_names equation_words devices) + length (equation_words device.kind) →
    unknowns ≡ length (own_names unknown_words devices) + length (unknown_words device.kind)
    → room_rule (devices ++ device ∷ []) ≡ unless (has_room (length nodes) equations unknowns) TooMany
room_is devices device nodes equations unknowns seen own_equations own_unknowns =
    let all = devices ++ device ∷ [] in
    let count : length nodes ≡ length (nodes_of all) = ap length (seen ∙ sym (nodes_of-push devices device)) in
    let left : length (equations_of all) ≡ length nodes + equations = equations-count all
    ∙ (λ i. sym count i + (own_names-push equation_words devices device ∙ sym own_equations) i) in
    let right : length (unknowns_of all) ≡ length nodes + unknowns = unknowns-count all
    ∙ (λ i. sym count i + (own_names-push unknown_words devices device ∙ sym own_unknowns) i) in
    λ i. unless (nat_le (left i) 4096 && nat_le (right i) 4096) TooMany

-- too little room, by the nodes alone or by the devices alone
pub no_room-nodes : (nodes equations unknowns : ℕ) → 4096 < nodes → has_room nodes equations unknowns ≡ false
no_room-nodes nodes equations unknowns full = let long : nat_le (nodes + equations) 4096 ≡ false = grind (arith, nat_tests) in rw long refl

no_room-equations : (nodes equations unknowns : ℕ) → 4096 < equations → has_room nodes equations unknowns ≡ false
no_room-equations nodes equations unknowns full = let long : nat_le (nodes + equations) 4096 ≡ false = grind (arith, nat_tests) in rw long refl

-- the rules of a device among others: its name is there
pub place-twice : (devices : List Device) (device : Device) → has_name (device_names devices) device.name ≡ true → place_rule devices device ≡ Some Twice
place-twice devices device there =
    first_broken (new_rule devices device) (room_rule (devices ++ device ∷ [])) Twice (ap (λ b. unless (not b) Twice) there)

place-new : (devices : List Device) (device : Device) → has_name (device_names devices) device.name ≡ false →
    place_rule devices device ≡ room_rule (devices ++ device ∷ [])
place-new devices device new =
    first_kept (new_rule devices device) (room_rule (devices ++ device ∷ [])) (ap (λ b. unless (not b) Twice) new)

-- or is new, and there are 4,096 already
pub place-full : (devices : List Device) (device : Device) → has_name (device_names devices) device.name ≡ false →
    4096 ≤ length (device_names devices) → place_rule devices device ≡ Some TooMany
place-full devices device new full =
    let own = length (own_names equation_words devices) + length (equation_words device.kind) in
    let more : 4096 < own = omega (arith, full, length-map devices (λ (d : Device). d.name), own_each devices, some_equation device.kind) in
    place-new devices device new
    ∙ room_is devices device (see_nodes (nodes_of devices) device.nodes) own
    (length (own_names unknown_words devices) + length (unknown_words device.kind)) refl refl refl
    ∙ unless_false (has_room (length (see_nodes (nodes_of devices) device.nodes)) own
    (length (own_names unknown_words devices) + length (unknown_words device.kind))) TooMany
    (no_room-equations (length (see_nodes (nodes_of devices) device.nodes)) own
    (length (own_names unknown_words devices) + length (unknown_words device.kind)) more)

-- or there is no room, or room
pub place-room : (devices : List Device) (device : Device) (nodes : List (List ℕ)) (equations unknowns : ℕ)
    (room : Bool) → has_name (device_names devices) device.name ≡ false →
    nodes ≡ see_nodes (nodes_of devices) device.nodes
    → equations ≡ length (own_names equation_words devices) + length (equation_words device.kind) →
    unknowns ≡ length (own_names unknown_words devices) + length (unknown_words device.kind)
    → has_room (length nodes) equations unknowns ≡ room → place_rule devices device ≡ unless room TooMany
place-room devices device nodes equations unknowns room new seen own_equations own_unknowns has =
    place-new devices device new ∙ room_is devices device nodes equations unknowns seen own_equations own_unknowns ∙ ap (λ b. unless b TooMany) has

-- a circuit with one device more
pub circuit-push : (p : ℕ) (old new : CircuitParts) (device : Device) → IsCircuit p old → IsDevice p device → has_name old.names device.name ≡ false
    → new.devices ≡ old.devices ++ device ∷ [] → new.names ≡ old.names ++ device.name ∷ [] → new.nodes ≡ see_nodes old.nodes device.nodes
    → new.own_equations ≡ old.own_equations + length (equation_words device.kind) → new.own_unknowns ≡ old.own_unknowns + length (unknown_words device.kind)
    → has_room (length new.nodes) new.own_equations new.own_unknowns ≡ true → IsCircuit p new
circuit-push p old new device circuit good fresh devices names nodes equations unknowns room =
    let all = old.devices ++ device ∷ [] in
    let few_equations : length new.nodes + new.own_equations ≤ 4096 = grind (arith, nat_tests) in
    let few_unknowns : length new.nodes + new.own_unknowns ≤ 4096 = grind (arith, nat_tests) in
    let own_equations : new.own_equations ≡ length (own_names equation_words all) = equations
    ∙ ap (λ n. n + length (equation_words device.kind)) circuit.own_equations
    ∙ sym (own_names-push equation_words old.devices device) in
    let own_unknowns : new.own_unknowns ≡ length (own_names unknown_words all) = unknowns
    ∙ ap (λ n. n + length (unknown_words device.kind)) circuit.own_unknowns
    ∙ sym (own_names-push unknown_words old.devices device) in
    let seen : new.nodes ≡ nodes_of all = nodes ∙ ap (λ front. see_nodes front device.nodes) circuit.nodes ∙ sym (nodes_of-push old.devices device) in
    record {
      devices = subst (All (IsDevice p)) (sym devices) (All-push (IsDevice p) old.devices device circuit.devices good);
      distinct = subst (λ list. IsDistinct bytes_eq (device_names list)) (sym devices)
          (subst (IsDistinct bytes_eq) (sym (names-push old.devices device))
          (IsDistinct-push nat_list_eq_equiv (device_names old.devices) device.name circuit.distinct
          (ap (λ list. has_name list device.name) (sym circuit.names) ∙ fresh)));
      names = names ∙ ap (λ front. front ++ device.name ∷ []) circuit.names ∙ sym (names-push old.devices device) ∙ ap device_names (sym devices);
      nodes = seen ∙ ap nodes_of (sym devices);
      own_equations = own_equations ∙ ap (λ list. length (own_names equation_words list)) (sym devices);
      own_unknowns = own_unknowns ∙ ap (λ list. length (own_names unknown_words list)) (sym devices);
      few_equations = subst (λ list. length (equations_of list) ≤ 4096) (sym devices)
          (omega (arith, equations-count all, few_equations, own_equations, ap length seen));
      few_unknowns = subst (λ list. length (unknowns_of list) ≤ 4096) (sym devices)
          (omega (arith, unknowns-count all, few_unknowns, own_unknowns, ap length seen));
    }

-- what a fault at the device's name says
pub name-fault : (devices : List Device) (device : Device) (names new : List (List ℕ)) (name : List ℕ)
    (fault : Fault) → names ≡ device_names devices → name ≡ device.name → AddsDeviceName names new name (Err fault) →
    OnBroken fault (λ why. place_rule devices device ≡ Some why)
name-fault devices device names new name NoMemory all same adds = tt
name-fault devices device names new name (Broken why) all same (inl twice) =
    place-twice devices device ((λ i. has_name (sym all i) (sym same i)) ∙ twice.1) ∙ ap Some (sym twice.0)
name-fault devices device names new name (Broken why) all same (inr full) =
    place-full devices device ((λ i. has_name (sym all i) (sym same i)) ∙ full.1) (subst (λ list. 4096 ≤ length list) all full.2) ∙ ap Some (sym full.0)

-- and one at its nodes, or at the room
pub nodes-fault : (p : ℕ) (parts : CircuitParts) (device : Device) (nodes : List (List ℕ)) (fault : Fault) →
    IsCircuit p parts → has_name parts.names device.name ≡ false → nodes ≡ see_nodes parts.nodes device.nodes
    → OnBroken fault (λ why. (why ≡ TooMany) × (4096 < length nodes)) → OnBroken fault (λ why. place_rule parts.devices device ≡ Some why)
nodes-fault p parts device nodes fault circuit new seen said =
    let equations = length (own_names equation_words parts.devices) + length (equation_words device.kind) in
    let unknowns = length (own_names unknown_words parts.devices) + length (unknown_words device.kind) in
    on_broken (λ why. (why ≡ TooMany) × (4096 < length nodes)) (λ why. place_rule parts.devices device ≡ Some why) fault
    (λ why full. place-room parts.devices device nodes equations unknowns false (ap (λ list. has_name list device.name) (sym circuit.names) ∙ new)
    (seen ∙ ap (λ front. see_nodes front device.nodes) circuit.nodes) refl refl
    (no_room-nodes (length nodes) equations unknowns full.1) ∙ ap Some (sym full.0)) said

-- the rule of a device's place, once its nodes are there, by the room
pub place-counted : (p : ℕ) (parts : CircuitParts) (device : Device) (nodes : List (List ℕ)) (equations unknowns : ℕ)
    (room : Bool) → IsCircuit p parts → has_name parts.names device.name ≡ false →
    nodes ≡ see_nodes parts.nodes device.nodes
    → equations ≡ parts.own_equations + length (equation_words device.kind) → unknowns ≡ parts.own_unknowns + length (unknown_words device.kind)
    → has_room (length nodes) equations unknowns ≡ room → place_rule parts.devices device ≡ unless room TooMany
place-counted p parts device nodes equations unknowns room circuit new seen own_equations own_unknowns has =
    place-room parts.devices device nodes equations unknowns room (ap (λ list. has_name list device.name) (sym circuit.names) ∙ new)
    (seen ∙ ap (λ front. see_nodes front device.nodes) circuit.nodes)
    (own_equations ∙ ap (λ n. n + length (equation_words device.kind)) circuit.own_equations)
    (own_unknowns ∙ ap (λ n. n + length (unknown_words device.kind)) circuit.own_unknowns) has

pub room-fault : (p : ℕ) (parts : CircuitParts) (device : Device) (middle new : CircuitParts) (kind : DeviceKind) (fault : Fault) →
    IsCircuit p parts → has_name parts.names device.name ≡ false → middle.nodes ≡ see_nodes parts.nodes device.nodes
    → middle.own_equations ≡ parts.own_equations → middle.own_unknowns ≡ parts.own_unknowns → kind ≡ device.kind →
    TakesRoom kind middle new (Err fault) → OnBroken fault (λ why. place_rule parts.devices device ≡ Some why)
room-fault p parts device middle new kind NoMemory circuit fresh seen equations unknowns same takes = tt
room-fault p parts device middle new kind (Broken why) circuit fresh seen equations unknowns same takes =
    place-counted p parts device middle.nodes (middle.own_equations + length (equation_words kind))
    (middle.own_unknowns + length (unknown_words kind)) false circuit fresh seen
    (λ i. equations i + length (equation_words (same i))) (λ i. unknowns i + length (unknown_words (same i))) takes.1
    ∙ ap Some (sym takes.0)

-- A device is named, its nodes are seen, its room is taken, and it is put last.
pub counted : (p : ℕ) (old middle taken new : CircuitParts) (device : Device) (kind : DeviceKind) → IsCircuit p old →
    IsDevice p device → has_name old.names device.name ≡ false → kind ≡ device.kind
    → middle.own_equations ≡ old.own_equations → middle.own_unknowns ≡ old.own_unknowns →
    middle.names ≡ old.names ++ device.name ∷ [] → middle.nodes ≡ see_nodes old.nodes device.nodes
    → TakesRoom kind middle taken (Ok tt) → new.names ≡ taken.names → new.nodes ≡ taken.nodes →
    new.own_equations ≡ taken.own_equations → new.own_unknowns ≡ taken.own_unknowns →
    new.devices ≡ old.devices ++ device ∷ [] → IsCircuit p new
counted p old middle taken new device kind circuit good fresh same equations unknowns named seen takes names nodes new_equations new_unknowns devices =
    circuit-push p old new device circuit good fresh devices
    (names ∙ ap (λ (parts : CircuitParts). parts.names) takes.0 ∙ named)
    (nodes ∙ ap (λ (parts : CircuitParts). parts.nodes) takes.0 ∙ seen)
    (new_equations ∙ ap (λ (parts : CircuitParts). parts.own_equations) takes.0 ∙ (λ i. equations i + length (equation_words (same i))))
    (new_unknowns ∙ ap (λ (parts : CircuitParts). parts.own_unknowns) takes.0 ∙ (λ i. unknowns i + length (unknown_words (same i))))
    ((λ i. has_room (length ((nodes ∙ ap (λ (parts : CircuitParts). parts.nodes) takes.0) i)) (new_equations i) (new_unknowns i)) ∙ takes.1)

pub counted-kept : (p : ℕ) (old middle taken : CircuitParts) (device : Device) (kind : DeviceKind) → IsCircuit p old →
    has_name old.names device.name ≡ false → kind ≡ device.kind
    → middle.own_equations ≡ old.own_equations → middle.own_unknowns ≡ old.own_unknowns → middle.nodes ≡ see_nodes old.nodes device.nodes
    → TakesRoom kind middle taken (Ok tt) → place_rule old.devices device ≡ None
counted-kept p old middle taken device kind circuit fresh same equations unknowns seen takes =
    place-counted p old device middle.nodes taken.own_equations taken.own_unknowns true circuit fresh seen
    (ap (λ (parts : CircuitParts). parts.own_equations) takes.0 ∙ (λ i. equations i + length (equation_words (same i))))
    (ap (λ (parts : CircuitParts). parts.own_unknowns) takes.0 ∙ (λ i. unknowns i + length (unknown_words (same i)))) takes.1
