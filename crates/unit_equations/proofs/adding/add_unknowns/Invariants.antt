use Rattle.std.proofs.Common.{map, take}
use Rattle.std.specs.String.{string_bytes}
use Rattle.unit_equations.specs.Growing.{GrowsBy, unknowns_alone}
use Rattle.unit_equations.proofs.adding.add_unknowns.Given as goal

abbrev pub invariant-loop-name : goal.invariant-loop-name
invariant-loop-name g l = GrowsBy g.F.Field.modulus l.fn.model l.model (unknowns_alone (take l.name-index (map string_bytes l.names)))
