use Rattle.std.proofs.Common.{map}
use Rattle.row_echelon.specs.Echelons.{SolvesRows}
use Rattle.row_echelon.proofs.echelon.Echelon.solve.Given as goal

abbrev pub invariant-loop-t : goal.invariant-loop-t
invariant-loop-t g l = SolvesRows g.F.Field.modulus l.self l.t (map g.F.Field.number l.x)
