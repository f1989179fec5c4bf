use Rattle.std.proofs.Common.{◌≡◌, ℕ, ◌+◌, ◌<◌, length, get_or, take}
use Rattle.netlist_devices.specs.Devices.{nodes_of}
use Rattle.netlist_devices.specs.EquationNames.{own_names}
use Rattle.netlist_reader.specs.Naming.{own_words}
use Rattle.netlist_reader.proofs.side.first_numbers.Given as goal

abbrev pub invariant-loop-device : goal.invariant-loop-device
invariant-loop-device g l = record {
  each : length l.firsts.items ≡ l.device-index;
  number : (k : ℕ) → k < l.device-index → get_or l.firsts.items k 0
      ≡ length (nodes_of l.circuit.devices) + length (own_names (own_words l.side) (take k l.circuit.devices));
  next : l.next
      ≡ length (nodes_of l.circuit.devices) + length (own_names (own_words l.side) (take l.device-index l.circuit.devices));
}
