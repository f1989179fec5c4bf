use Rattle.std.proofs.Common.{◌≡◌, map, ◌++◌, take}
use Rattle.std.specs.String.{string_bytes}
use Rattle.netlist_reader.specs.Naming.{own_words}
use Rattle.netlist_devices.specs.EquationNames.{own_names}
use Rattle.netlist_reader.proofs.side.push_devices.Given as goal

abbrev pub invariant-loop-device : goal.invariant-loop-device
invariant-loop-device g l =
    map string_bytes l.names.items
    ≡ map string_bytes l.fn.names.items ++ own_names (own_words l.side) (take l.device-index l.circuit.devices)
