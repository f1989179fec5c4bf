use Rattle.std.proofs.Common.{◌≡◌, length, map, drop}
use Rattle.toml.specs.View.{view}
use Rattle.flowsheet_reader.specs.Models.{stream_in, streams_in}
use Rattle.document_values.specs.Values.{each}
use Rattle.flowsheet_reader.proofs.document.streams.Given as goal

abbrev pub invariant-loop-place : goal.invariant-loop-place
invariant-loop-place l = record {
  read : streams_in l.components (map view l.items) ≡ each (stream_in l.components) l.names (map view (drop l.place l.items));
  count : length l.names ≡ l.place;
}
