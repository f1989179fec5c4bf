use Rattle.std.proofs.Common.{map}
use Rattle.row_echelon.specs.Echelons.{IsRowReduced}
use Rattle.row_echelon.proofs.echelon.Echelon.reduced.Given as goal

abbrev pub invariant-loop-pivot : goal.invariant-loop-pivot
invariant-loop-pivot g l = IsRowReduced g.F.Field.modulus l.self l.pivot-index (map g.F.Field.number l.fn.row) (g.F.Field.number l.fn.right)
    (map g.F.Field.number l.row) (g.F.Field.number l.right)
