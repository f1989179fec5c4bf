use Rattle.std.proofs.Common.{◌≡◌, Global, String, map, take}
use Rattle.std.specs.List.{flat_map}
use Rattle.std.specs.String.{string_bytes}
use Rattle.unit_equations.specs.Kinds.{flow}
use Rattle.flowsheet_reader.proofs.filling.flows.Given as goal

abbrev pub invariant-loop-stream : goal.invariant-loop-stream
invariant-loop-stream l =
    map string_bytes l.names.items
    ≡ flat_map (λ (stream : String Global). map (flow (string_bytes stream)) l.components) (take l.stream-index l.stream-items)
