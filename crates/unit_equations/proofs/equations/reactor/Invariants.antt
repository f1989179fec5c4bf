use Rattle.std.proofs.Common.{◌≡◌, length, map, take}
use Rattle.std.specs.List.{zip}
use Rattle.unit_equations.specs.Kinds.{reactor}
use Rattle.unit_equations.proofs.equations.reactor.Given as goal

abbrev pub invariant-loop-component : goal.invariant-loop-component
invariant-loop-component g l =
    l.equations ≡ (reactor g.F.Field.modulus l.unit l.inlet l.outlet
    (take (length l.yielded) (zip l.components (map g.F.Field.number l.coefficients)))).equations
