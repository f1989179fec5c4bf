use Rattle.std.proofs.Common.{◌≡◌, map, replicate}
use Rattle.row_echelon.proofs.row.zeros.Given as goal

abbrev pub invariant-loop-column : goal.invariant-loop-column
invariant-loop-column g l = map g.F.Field.number l.x.items ≡ replicate l._column 0
