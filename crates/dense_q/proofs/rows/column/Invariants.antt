use Rattle.std.proofs.Common.{◌≡◌, map, take, slice_index}
use Rattle.dense_q.proofs.rows.column.Given as goal

abbrev pub invariant-loop-row : goal.invariant-loop-row
invariant-loop-row g l = map g.F.Field.number l.column.items ≡ take l.row-index (map (λ row. slice_index (map g.F.Field.number row.items) l.j) l.rows)
