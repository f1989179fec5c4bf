-- What reading a line of a netlist answers and leaves.
use Rattle.std.specs.Prelude.{◌≡◌, ◌⊎◌, ℕ, ◌+◌, ◌≤◌, Bool, true, false, not, ◌||◌, ◌&&◌, List, [], ◌∷◌, ◌++◌, length, map, fold, position}
use Rattle.std.specs.Prelude.{slice_index, if◌then◌else◌, nat_le, Option, Some, None, Result, Ok, Err}
use Rattle.std.specs.Option.{option_or, option_to_list}
use Rattle.refusals.specs.declared.Why.{Why}
use Rattle.refusals.specs.declared.Why.TheVariants.{Twice, TooMany, Unsupported, NoGround, NoSuchSource}
use Rattle.refusals.specs.declared.Place.TheVariants.{Line, Document}
use Rattle.refusals.specs.declared.Refused.{Refused as Refusal}
use Rattle.limits.specs.Limits.{equation_limit}
use Rattle.line_lexer.specs.Names.{is_name}
use Rattle.mixed_model.specs.Names.{has_name, see}
use Rattle.line_reader.specs.Answers.{AnswersRule}
use Rattle.refusals.specs.Faults.{OnBroken}
use Rattle.refusals.specs.declared.fault.Fault.{Fault}
use Rattle.refusals.specs.declared.fault.Fault.TheVariants.{Broken, NoMemory}
use Rattle.netlist_devices.specs.declared.kind.DeviceKind.{DeviceKind}
use Rattle.netlist_devices.specs.Devices.{Device, device_in, device_of, from_name, has_source, is_ground, kind_of, word_after_nodes}
use Rattle.netlist_devices.specs.Rules.{shape_rule, name_rule, number_rule, place_rule, ground_rule, is_source}
use Rattle.netlist_devices.specs.EquationNames.{equation_words, unknown_words}
use Rattle.netlist_devices.specs.Circuits.{CircuitParts, IsCircuit}

-- the source of a device is a name, where its kind has one
abbrev pub keeps_source_name : DeviceKind → List ℕ → Bool
keeps_source_name kind source = not (has_source kind) || is_name source

-- the rules of a device by itself, by the words from its name on
abbrev pub own_rule : ℕ → DeviceKind → List (List ℕ) → Option Why
own_rule p kind words =
    option_or (shape_rule kind words)
    (option_or (name_rule (device_of p kind words)) (number_rule p kind (word_after_nodes kind words)))

-- of a line by itself, where this is its kind
abbrev pub own_kind_rule : ℕ → Option DeviceKind → List (List ℕ) → Option Why
own_kind_rule p None words = Some Unsupported
own_kind_rule p (Some kind) words = own_rule p kind (from_name kind words)

-- of a line by itself
abbrev pub own_line_rule : ℕ → List (List ℕ) → Option Why
own_line_rule p [] = None
own_line_rule p (word ∷ words) = own_kind_rule p (kind_of word) (word ∷ words)

-- of a line's device among those before it
abbrev pub here_rule : List Device → List Device → Option Why
here_rule before [] = None
here_rule before (device ∷ devices) = place_rule before device

-- What reading a device by the words from its name on answers.
abbrev pub ReadsDevice : ℕ → DeviceKind → List (List ℕ) → Result Device Fault → Type 0
ReadsDevice p kind words (Ok device) = (own_rule p kind words ≡ None) × (device ≡ device_of p kind words)
ReadsDevice p kind words (Err fault) = OnBroken fault (λ why. own_rule p kind words ≡ Some why)

-- What reading the device of a line answers, by its words.
abbrev pub ReadsWords : ℕ → List (List ℕ) → Result (Option Device) Fault → Type 0
ReadsWords p words (Ok device) = (own_line_rule p words ≡ None) × (option_to_list device ≡ device_in p words)
ReadsWords p words (Err fault) = OnBroken fault (λ why. own_line_rule p words ≡ Some why)

-- These devices of the line of this number are put last.
abbrev pub PutsLast : ℕ → CircuitParts → CircuitParts → List Device → Type 0
PutsLast line old new devices =
    (new.devices ≡ old.devices ++ devices) × (new.lines ≡ old.lines ++ map (λ device. line) devices)

-- What adding a device answers and leaves.
abbrev pub AddsDevice : ℕ → CircuitParts → CircuitParts → Device → Result (Unit {0}) Fault → Type 0
AddsDevice line old new device result =
    AnswersRule (place_rule old.devices device) (PutsLast line old new (device ∷ [])) result

-- What reading a line answers and leaves.
abbrev pub ReadsLine : ℕ → ℕ → CircuitParts → CircuitParts → List (List ℕ) → Result (Unit {0}) Fault → Type 0
ReadsLine p line old new words result =
    AnswersRule (option_or (own_line_rule p words) (here_rule old.devices (device_in p words)))
    (PutsLast line old new (device_in p words)) result

-- What putting a device's name last answers and leaves.
abbrev pub AddsDeviceName : List (List ℕ) → List (List ℕ) → List ℕ → Result (Unit {0}) Fault → Type 0
AddsDeviceName old new name (Ok _) = (has_name old name ≡ false) × (new ≡ old ++ name ∷ [])
AddsDeviceName old new name (Err (Broken why)) =
    ((why ≡ Twice) × (has_name old name ≡ true))
    ⊎ ((why ≡ TooMany) × (has_name old name ≡ false) × (equation_limit ≤ length old))
AddsDeviceName old new name (Err NoMemory) = Unit {0}

-- a node put last, unless it is the ground or there
abbrev pub see_node : List (List ℕ) → List ℕ → List (List ℕ)
see_node seen node = if is_ground node then seen else see seen node

-- and some nodes
abbrev pub see_nodes : List (List ℕ) → List (List ℕ) → List (List ℕ)
see_nodes seen nodes = fold see_node seen nodes

-- whether equations and unknowns of these numbers, beside those of the nodes, are few enough
abbrev pub has_room : ℕ → ℕ → ℕ → Bool
has_room nodes equations unknowns =
    nat_le (nodes + equations) equation_limit && nat_le (nodes + unknowns) equation_limit

-- What counting the equations and unknowns of one more device answers and leaves.
abbrev pub TakesRoom : DeviceKind → CircuitParts → CircuitParts → Result (Unit {0}) Fault → Type 0
TakesRoom kind old new (Ok _) =
    (new ≡ record old {
      own_equations = old.own_equations + length (equation_words kind);
      own_unknowns = old.own_unknowns + length (unknown_words kind);
    })
    × (has_room (length old.nodes) new.own_equations new.own_unknowns ≡ true)
TakesRoom kind old new (Err (Broken why)) =
    (why ≡ TooMany)
    × (has_room (length old.nodes) (old.own_equations + length (equation_words kind))
    (old.own_unknowns + length (unknown_words kind)) ≡ false)
TakesRoom kind old new (Err NoMemory) = Unit {0}

-- It can read a line more: each device has the number of its line.
pub record IsReady (p : ℕ) (parts : CircuitParts) : Type 0 where
  pub circuit : IsCircuit p parts
  pub one_line_each : length parts.lines ≡ length parts.devices

-- whether a device's source is a V device, where its kind has one
abbrev pub keeps_source : List Device → Device → Bool
keeps_source devices device = not (has_source device.kind) || is_source devices device.source

-- the place of the first device of which it is not
abbrev pub first_unsourced : List Device → Option ℕ
first_unsourced devices = position (λ device. not (keeps_source devices device)) devices

-- What testing a whole circuit answers.
abbrev pub TestsCircuit : CircuitParts → Result (Unit {0}) Refusal → Type 0
TestsCircuit parts (Ok _) = (ground_rule parts.devices ≡ None) × (first_unsourced parts.devices ≡ None)
TestsCircuit parts (Err refused) =
    ((refused ≡ record { place = Document; why = NoGround }) × (ground_rule parts.devices ≡ Some NoGround))
    ⊎ ((ground_rule parts.devices ≡ None)
    × ((k : ℕ) × (first_unsourced parts.devices ≡ Some k)
    × (refused ≡ record { place = Line (slice_index parts.lines k); why = NoSuchSource })))
