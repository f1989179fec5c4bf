use Rattle.std.proofs.Common.{take}
use Rattle.unit_equations.specs.Growing.{GrowsBy, equations_alone}
use Rattle.unit_equations.proofs.adding.add_equations.Given as goal

abbrev pub invariant-loop-equation : goal.invariant-loop-equation
invariant-loop-equation g l = GrowsBy g.F.Field.modulus l.fn.model l.model (equations_alone (take l.equation-index l.equations))
