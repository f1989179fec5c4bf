use Rattle.std.proofs.Common.{◌≡◌, ◌++◌, map, take}
use Rattle.std.specs.String.{string_bytes}
use Rattle.unit_equations.specs.Kinds.{flow}
use Rattle.unit_equations.specs.Parts.{open_at}
use Rattle.unit_equations.proofs.summands.Summands.open_flows.Given as goal

abbrev pub invariant-loop-component : goal.invariant-loop-component
invariant-loop-component g l =
    l.self ≡ l.fn.self ++ map open_at (map (flow l.stream) (map string_bytes (take l.component-index l.components)))
