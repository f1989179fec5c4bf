use Rattle.std.proofs.Common.{◌<◌}
use Rattle.std.specs.List.{AllWithin}
use Rattle.dense_q.proofs.rows.in_field.Given as goal

abbrev pub invariant-loop-value : goal.invariant-loop-value
invariant-loop-value g l = AllWithin (λ value. g.F.Field.number value < g.F.Field.modulus) l.row 0 l.value-index
