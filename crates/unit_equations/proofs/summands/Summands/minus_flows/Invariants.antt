use Rattle.std.proofs.Common.{◌≡◌, ◌-◌, ◌++◌, map, take}
use Rattle.std.specs.String.{string_bytes}
use Rattle.unit_equations.specs.Kinds.{each_times}
use Rattle.unit_equations.proofs.summands.Summands.minus_flows.Given as goal

abbrev pub invariant-loop-stream : goal.invariant-loop-stream
invariant-loop-stream g l =
    l.self ≡ l.fn.self ++ each_times (g.F.Field.modulus - 1) (map string_bytes (take l.stream-index l.streams)) l.component
