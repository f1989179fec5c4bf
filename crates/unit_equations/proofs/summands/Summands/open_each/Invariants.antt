use Rattle.std.proofs.Common.{◌≡◌, ◌++◌, map, take}
use Rattle.std.specs.String.{string_bytes}
use Rattle.unit_equations.specs.Parts.{open_at}
use Rattle.unit_equations.proofs.summands.Summands.open_each.Given as goal

abbrev pub invariant-loop-unknown : goal.invariant-loop-unknown
invariant-loop-unknown g l = l.self ≡ l.fn.self ++ map open_at (map string_bytes (take l.unknown-index l.unknowns))
