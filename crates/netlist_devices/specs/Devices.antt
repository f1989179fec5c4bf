-- Devices, and what the words of a line give.
use Rattle.std.specs.Prelude.{ℕ, ◌+◌, Bool, true, false, ◌||◌, List, [], ◌∷◌, map, fold, filter, not, take, drop, codes, if◌then◌else◌}
use Rattle.std.specs.Prelude.{slice_index_or, Option, Some, None}
use Rattle.std.specs.List.{flat_map}
use Rattle.std.specs.Option.{option_or, option_map, option_to_list}
use Rattle.std.specs.Result.{result_unwrap_or}
use Rattle.std.specs.Str.{bytes_eq, str_to_ascii_lowercase}
use Rattle.line_lexer.specs.Numbers.{number_of}
use Rattle.mixed_model.specs.Names.{see}
use Rattle.netlist_devices.specs.declared.kind.DeviceKind.{DeviceKind}
use Rattle.netlist_devices.specs.declared.kind.DeviceKind.TheVariants.{Passive, Voltage, Current, VoltageByVoltage, CurrentByVoltage}
use Rattle.netlist_devices.specs.declared.kind.DeviceKind.TheVariants.{CurrentByCurrent, VoltageByCurrent, Opamp, Transformer, Gyrator}

-- A device: its nodes in the order in which they stand, the name of its source and the residue of its number, where its
-- kind has one.
pub record Device : Type 0 where
  pub kind : DeviceKind
  pub name : List ℕ
  pub nodes : List (List ℕ)
  pub source : List ℕ
  pub number : ℕ

-- the directives, in lower case
abbrev pub directives : List (List ℕ × DeviceKind)
directives = (codes ".opamp", Opamp) ∷ (codes ".transformer", Transformer) ∷ (codes ".gyrator", Gyrator) ∷ []

-- the device letters, in lower case
abbrev pub letters : List (List ℕ × DeviceKind)
letters =
    (codes "r", Passive) ∷ (codes "l", Passive) ∷ (codes "c", Passive) ∷ (codes "v", Voltage) ∷ (codes "i", Current)
    ∷ (codes "e", VoltageByVoltage) ∷ (codes "g", CurrentByVoltage) ∷ (codes "f", CurrentByCurrent)
    ∷ (codes "h", VoltageByCurrent) ∷ []

-- the kind beside a word
abbrev pub kind_beside : List ℕ → List (List ℕ × DeviceKind) → Option DeviceKind
kind_beside word [] = None
kind_beside word (row ∷ rows) = if bytes_eq word row.0 then Some row.1 else kind_beside word rows

-- The kind that a line's first word tells: a directive, or else its first letter, of either case.
abbrev pub kind_of : List ℕ → Option DeviceKind
kind_of word =
    option_or (kind_beside (str_to_ascii_lowercase word) directives)
    (kind_beside (take 1 (str_to_ascii_lowercase word)) letters)

abbrev pub is_directive : DeviceKind → Bool
is_directive Opamp = true
is_directive Transformer = true
is_directive Gyrator = true
is_directive _ = false

-- whether the current of a V device controls it
abbrev pub has_source : DeviceKind → Bool
has_source CurrentByCurrent = true
has_source VoltageByCurrent = true
has_source _ = false

-- whether its line ends with a number that counts
abbrev pub ends_with_number : DeviceKind → Bool
ends_with_number Transformer = true
ends_with_number Gyrator = true
ends_with_number _ = false

abbrev pub nodes_wanted : DeviceKind → ℕ
nodes_wanted VoltageByVoltage = 4
nodes_wanted CurrentByVoltage = 4
nodes_wanted Opamp = 3
nodes_wanted Transformer = 4
nodes_wanted Gyrator = 4
nodes_wanted _ = 2

-- the words that a device needs: its name, its nodes, and its source or its number
abbrev pub words_wanted : DeviceKind → ℕ
words_wanted kind = 1 + nodes_wanted kind + (if has_source kind || ends_with_number kind then 1 else 0)

-- the words of a line from the device's name on: a directive stands before it
abbrev pub from_name : DeviceKind → List (List ℕ) → List (List ℕ)
from_name kind words = if is_directive kind then drop 1 words else words

-- the word after a device's nodes, by its words from its name on
abbrev pub word_after_nodes : DeviceKind → List (List ℕ) → List ℕ
word_after_nodes kind words = slice_index_or words (1 + nodes_wanted kind) []

-- the device that these words give, from its name on
abbrev pub device_of : ℕ → DeviceKind → List (List ℕ) → Device
device_of p kind words = record {
  kind = kind;
  name = slice_index_or words 0 [];
  nodes = take (nodes_wanted kind) (drop 1 words);
  source = if has_source kind then word_after_nodes kind words else [];
  number = if ends_with_number kind then result_unwrap_or (number_of p (word_after_nodes kind words)) 0 else 0;
}

-- the device that the words of a line give, where they give one
abbrev pub device_in : ℕ → List (List ℕ) → List Device
device_in p [] = []
device_in p (word ∷ words) =
    option_to_list (option_map (λ kind. device_of p kind (from_name kind (word ∷ words))) (kind_of word))

-- the devices of some lines, each line as its words
abbrev pub devices_in : ℕ → List (List (List ℕ)) → List Device
devices_in p lines = flat_map (device_in p) lines

abbrev pub ground : List ℕ
ground = codes "0"

abbrev pub is_ground : List ℕ → Bool
is_ground node = bytes_eq node ground

-- the nodes of some devices but the ground, in the order in which they first stand
abbrev pub nodes_of : List Device → List (List ℕ)
nodes_of devices = fold see [] (filter (λ node. not (is_ground node)) (flat_map (λ device. device.nodes) devices))

-- the names of some devices
abbrev pub device_names : List Device → List (List ℕ)
device_names devices = map (λ device. device.name) devices
