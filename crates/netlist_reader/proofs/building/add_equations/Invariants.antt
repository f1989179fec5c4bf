use Rattle.std.proofs.Common.{◌≡◌, map, take}
use Rattle.std.specs.String.{string_bytes}
use Rattle.term_model.specs.Putting.{IsBlank}
use Rattle.netlist_reader.proofs.building.add_equations.Given as goal

abbrev pub invariant-loop-name : goal.invariant-loop-name
invariant-loop-name g l = record {
  equations : l.model.equations ≡ take l.name-index (map string_bytes l.names);
  unknowns : l.model.unknowns ≡ l.fn.model.unknowns;
  blank : IsBlank l.model;
}
