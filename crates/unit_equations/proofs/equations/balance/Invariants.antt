use Rattle.std.proofs.Common.{◌≡◌, ◌∷◌, codes, map, take}
use Rattle.std.specs.String.{string_bytes}
use Rattle.term_model.specs.Terms.{dotted}
use Rattle.unit_equations.specs.Kinds.{flows}
use Rattle.unit_equations.specs.Parts.{open_at, times}
use Rattle.unit_equations.proofs.equations.balance.Given as goal

abbrev pub invariant-loop-stream : goal.invariant-loop-stream
invariant-loop-stream g l =
    l.heat ≡ times 1 (dotted (codes "q") l.unit) ∷ map open_at (flows l.components (map string_bytes (take l.stream-index l.streams)))
