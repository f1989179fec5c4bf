use Rattle.std.proofs.Common.{◌≡◌, map, take}
use Rattle.std.specs.String.{string_bytes}
use Rattle.unit_equations.specs.Kinds.{tee}
use Rattle.unit_equations.proofs.equations.tee.Given as goal

abbrev pub invariant-loop-component : goal.invariant-loop-component
invariant-loop-component g l =
    l.equations ≡ (tee g.F.Field.modulus l.version
    (map string_bytes (take l.component-index l.component-items)) l.unit l.inlet (map string_bytes l.outlets)
    (map g.F.Field.number l.fractions)).equations
