use Rattle.std.proofs.Common.{◌≡◌, map, take}
use Rattle.std.specs.String.{string_bytes}
use Rattle.netlist_reader.proofs.building.add_unknowns.Given as goal

abbrev pub invariant-loop-name : goal.invariant-loop-name
invariant-loop-name g l = record {
  unknowns : l.model.unknowns ≡ take l.name-index (map string_bytes l.names);
  equations : l.model.equations ≡ l.fn.model.equations;
  rows : l.model.rows ≡ l.fn.model.rows;
}
