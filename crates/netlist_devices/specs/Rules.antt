-- The rules of a netlist: each is a condition on one line and on the lines before it, or on all devices, and answers
-- why it is broken, or None where it is kept. Of several the first one that is broken counts.
use Rattle.std.specs.Prelude.{ℕ, Bool, true, false, not, ◌&&◌, ◌||◌, List, [], ◌∷◌, ◌++◌, length, if◌then◌else◌, nat_le, nat_eq, Option, Some, None}
use Rattle.std.specs.List.{list_all, list_any}
use Rattle.std.specs.Option.{option_or}
use Rattle.std.specs.Result.{result_err}
use Rattle.std.specs.Str.{bytes_eq}
use Rattle.limits.specs.Limits.{equation_limit}
use Rattle.refusals.specs.declared.Why.{Why}
use Rattle.refusals.specs.declared.Why.TheVariants.{BadShape, BadName, Twice, TooMany, Unsupported, NoGround, NoSuchSource}
use Rattle.line_lexer.specs.Names.{is_name, is_node}
use Rattle.line_lexer.specs.Numbers.{number_of}
use Rattle.line_reader.specs.LineRules.{Rules}
use Rattle.mixed_model.specs.Names.{has_name}
use Rattle.netlist_devices.specs.declared.kind.DeviceKind.{DeviceKind}
use Rattle.netlist_devices.specs.declared.kind.DeviceKind.TheVariants.{Voltage, Opamp}
use Rattle.netlist_devices.specs.Devices.{Device, kind_of, is_directive, has_source, ends_with_number, words_wanted, from_name}
use Rattle.netlist_devices.specs.Devices.{word_after_nodes, device_of, devices_in, device_names, is_ground}
use Rattle.netlist_devices.specs.EquationNames.{equations_of, unknowns_of}

-- a rule that is kept where this holds
abbrev pub unless : Bool → Why → Option Why
unless holds why = if holds then None else Some why

-- words enough from the name on, and for a directive not too many
abbrev pub shape_rule : DeviceKind → List (List ℕ) → Option Why
shape_rule kind words =
    unless (if is_directive kind then nat_eq (length words) (words_wanted kind)
    else nat_le (words_wanted kind) (length words)) BadShape

-- the names in a device: its own, its nodes, its source
abbrev pub name_rule : Device → Option Why
name_rule device =
    unless (is_name device.name && list_all is_node device.nodes
    && (not (has_source device.kind) || is_name device.source)) BadName

-- the text of its number
abbrev pub number_rule : ℕ → DeviceKind → List ℕ → Option Why
number_rule p kind text = if ends_with_number kind then result_err (number_of p text) else None

-- its name is new
abbrev pub new_rule : List Device → Device → Option Why
new_rule before device = unless (not (has_name (device_names before) device.name)) Twice

-- with it there are at most 4,096 equations and unknowns
abbrev pub room_rule : List Device → Option Why
room_rule devices =
    unless (nat_le (length (equations_of devices)) equation_limit
    && nat_le (length (unknowns_of devices)) equation_limit) TooMany

-- a device among those before it
abbrev pub place_rule : List Device → Device → Option Why
place_rule before device = option_or (new_rule before device) (room_rule (before ++ device ∷ []))

-- a device of a kind, by the words from its name on
abbrev pub device_rule : ℕ → List Device → DeviceKind → List (List ℕ) → Option Why
device_rule p before kind words =
    option_or (shape_rule kind words)
    (option_or (name_rule (device_of p kind words))
    (option_or (number_rule p kind (word_after_nodes kind words))
    (place_rule before (device_of p kind words))))

abbrev pub kind_rule : ℕ → List Device → Option DeviceKind → List (List ℕ) → Option Why
kind_rule p before None words = Some Unsupported
kind_rule p before (Some kind) words = device_rule p before kind (from_name kind words)

-- A line by its words, given the words of the lines before it.
abbrev pub words_rule : ℕ → List (List (List ℕ)) → List (List ℕ) → Option Why
words_rule p before [] = None
words_rule p before (word ∷ words) = kind_rule p (devices_in p before) (kind_of word) (word ∷ words)

-- The rules of a line: one whose first byte other than space and tab is * is a comment as a whole.
abbrev pub device_rules : ℕ → Rules
device_rules p = record { remark = Some 42; words = words_rule p }

abbrev pub is_opamp : DeviceKind → Bool
is_opamp Opamp = true
is_opamp _ = false

abbrev pub is_voltage : DeviceKind → Bool
is_voltage Voltage = true
is_voltage _ = false

-- whether a device names the ground; an opamp's current enters it
abbrev pub names_ground : Device → Bool
names_ground device = is_opamp device.kind || list_any is_ground device.nodes

-- Where there is a device, some device names the ground.
abbrev pub ground_rule : List Device → Option Why
ground_rule devices = unless (nat_eq (length devices) 0 || list_any names_ground devices) NoGround

-- whether a V device has this name
abbrev pub is_source : List Device → List ℕ → Bool
is_source devices name = list_any (λ device. is_voltage device.kind && bytes_eq name device.name) devices

-- The sources of a line's device are V devices.
abbrev pub source_rule : List Device → List Device → Option Why
source_rule devices here =
    unless (list_all (λ device. not (has_source device.kind) || is_source devices device.source) here) NoSuchSource
