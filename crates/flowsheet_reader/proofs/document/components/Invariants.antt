use Rattle.std.proofs.Common.{◌≡◌, length, map, drop}
use Rattle.toml.specs.View.{view}
use Rattle.flowsheet_reader.specs.Models.{component_in, components_in}
use Rattle.document_values.specs.Values.{each}
use Rattle.flowsheet_reader.proofs.document.components.Given as goal

abbrev pub invariant-loop-place : goal.invariant-loop-place
invariant-loop-place l = record {
  read : components_in (map view l.items) ≡ each component_in l.names (map view (drop l.place l.items));
  count : length l.names ≡ l.place;
}
