-- What a reader of netlists keeps of the lines so far.
use Rattle.std.specs.Prelude.{◌≡◌, ℕ, ◌+◌, ◌<◌, ◌≤◌, true, List, [], ◌∷◌, ◌++◌, length, map, All, None}
use Rattle.std.specs.List.{IsDistinct}
use Rattle.std.specs.Str.{bytes_eq}
use Rattle.limits.specs.Limits.{equation_limit}
use Rattle.line_lexer.specs.Names.{is_name, is_node}
use Rattle.netlist_devices.specs.Devices.{Device, device_in, devices_in, device_names, nodes_of, nodes_wanted}
use Rattle.netlist_devices.specs.EquationNames.{equations_of, unknowns_of, equation_words, unknown_words, own_names}
use Rattle.netlist_devices.specs.Rules.{source_rule}

-- The devices, the number of the line of each, their names, their nodes but the ground, and how many equations and
-- unknowns they have of their own.
pub record CircuitParts : Type 0 where
  pub devices : List Device
  pub lines : List ℕ
  pub names : List (List ℕ)
  pub nodes : List (List ℕ)
  pub own_equations : ℕ
  pub own_unknowns : ℕ

-- the number of the line of each device, where the first line has this number
abbrev pub device_lines : ℕ → ℕ → List (List (List ℕ)) → List ℕ
device_lines p first [] = []
device_lines p first (words ∷ lines) = map (λ device. first) (device_in p words) ++ device_lines p (first + 1) lines

-- what the rules of one line keep of a device
pub record IsDevice (p : ℕ) (device : Device) : Type 0 where
  pub name : is_name device.name ≡ true
  pub nodes : All (λ node. is_node node ≡ true) device.nodes
  pub nodes_wanted : length device.nodes ≡ nodes_wanted device.kind
  pub number : device.number < p

-- The parts are those of the devices, which keep the rules of a line.
pub record IsCircuit (p : ℕ) (parts : CircuitParts) : Type 0 where
  pub devices : All (IsDevice p) parts.devices
  pub distinct : IsDistinct bytes_eq (device_names parts.devices)
  pub names : parts.names ≡ device_names parts.devices
  pub nodes : parts.nodes ≡ nodes_of parts.devices
  pub own_equations : parts.own_equations ≡ length (own_names equation_words parts.devices)
  pub own_unknowns : parts.own_unknowns ≡ length (own_names unknown_words parts.devices)
  pub few_equations : length (equations_of parts.devices) ≤ equation_limit
  pub few_unknowns : length (unknowns_of parts.devices) ≤ equation_limit

-- These lines, by their words, were read.
pub record HasRead (p : ℕ) (parts : CircuitParts) (read : List (List (List ℕ))) : Type 0 where
  pub circuit : IsCircuit p parts
  pub devices : parts.devices ≡ devices_in p read
  pub lines : parts.lines ≡ device_lines p 1 read

-- the source of each device is a V device
abbrev pub AreSourced : List Device → Type 0
AreSourced devices = source_rule devices devices ≡ None
