use Rattle.std.proofs.Common.{◌≡◌, ◌++◌, Global, String, map, take}
use Rattle.std.specs.String.{string_bytes}
use Rattle.unit_equations.specs.Kinds.{flow}
use Rattle.flowsheet_reader.proofs.filling.push_flows.Given as goal

abbrev pub invariant-loop-component : goal.invariant-loop-component
invariant-loop-component l =
    map string_bytes l.names.items
    ≡ map string_bytes l.fn.names.items ++ map (λ (component : String Global). flow l.stream
    (string_bytes component)) (take l.component-index l.component-items)
