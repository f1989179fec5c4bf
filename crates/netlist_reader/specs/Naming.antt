-- The names of a circuit's unknowns or equations.
use Rattle.std.specs.Prelude.{ℕ, List, ◌++◌, map, codes}
use Rattle.term_model.specs.Terms.{dotted}
use Rattle.netlist_devices.specs.declared.kind.DeviceKind.{DeviceKind}
use Rattle.netlist_reader.specs.declared.side.Side.{Side}
use Rattle.netlist_reader.specs.declared.side.Side.TheVariants.{Unknowns, Equations}
use Rattle.netlist_devices.specs.Devices.{Device, nodes_of}
use Rattle.netlist_devices.specs.EquationNames.{unknown_words, equation_words, own_names}

-- the word before a node
abbrev pub node_word : Side → List ℕ
node_word Unknowns = codes "u"
node_word Equations = codes "kcl"

-- the words before a device's name
abbrev pub own_words : Side → DeviceKind → List (List ℕ)
own_words Unknowns = unknown_words
own_words Equations = equation_words

-- the names on a side: those of the nodes, and then those of the devices
abbrev pub names_on : Side → List Device → List (List ℕ)
names_on side devices = map (dotted (node_word side)) (nodes_of devices) ++ own_names (own_words side) devices
