use Rattle.std.proofs.Common.{◌≡◌, map, take}
use Rattle.std.specs.String.{string_bytes}
use Rattle.netlist_devices.specs.ReaderStates.{see_nodes}
use Rattle.netlist_devices.proofs.circuit.add_nodes.Given as goal

abbrev pub invariant-loop-node : goal.invariant-loop-node
invariant-loop-node l = l.seen ≡ see_nodes l.fn.seen (take l.node-index (map string_bytes l.nodes))
