use Rattle.std.proofs.Common.{◌<◌}
use Rattle.std.specs.List.{All, AllWithin}
use Rattle.dense_q.proofs.matrix.Mat.in_field.Given as goal

abbrev pub invariant-loop-row : goal.invariant-loop-row
invariant-loop-row g l = AllWithin (λ row. All (λ value. g.F.Field.number value < g.F.Field.modulus) row.items) l.row-items 0 l.row-index
