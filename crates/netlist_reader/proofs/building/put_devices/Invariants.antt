use Rattle.std.proofs.Common.{◌≡◌, take}
use Rattle.term_model.specs.Putting.{Says}
use Rattle.netlist_reader.specs.Terms.{terms_of}
use Rattle.netlist_reader.proofs.building.put_devices.Given as goal

abbrev pub invariant-loop-k : goal.invariant-loop-k
invariant-loop-k g l = record {
  equations : l.model.equations ≡ l.fn.model.equations;
  unknowns : l.model.unknowns ≡ l.fn.model.unknowns;
  says : Says g.F.Field.modulus (terms_of g.F.Field.modulus (take l.k l.circuit.devices)) l.model;
}

abbrev pub ghost-put_device : goal.ghost-put_device
ghost-put_device g a = g.names
