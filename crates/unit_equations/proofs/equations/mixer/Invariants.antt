use Rattle.std.proofs.Common.{◌≡◌, map, take}
use Rattle.std.specs.String.{string_bytes}
use Rattle.unit_equations.specs.Kinds.{mixer}
use Rattle.unit_equations.proofs.equations.mixer.Given as goal

abbrev pub invariant-loop-component : goal.invariant-loop-component
invariant-loop-component g l =
    l.equations ≡ (mixer g.F.Field.modulus (map string_bytes (take l.component-index l.component-items)) l.unit (map string_bytes l.inlets) l.outlet).equations
