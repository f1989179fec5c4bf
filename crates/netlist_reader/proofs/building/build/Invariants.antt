use Rattle.netlist_reader.specs.Numbers.{numbered_of}
use Rattle.netlist_reader.proofs.building.build.Given as goal

abbrev pub ghost-put_devices : goal.ghost-put_devices
ghost-put_devices g a = numbered_of a.circuit.now.devices
