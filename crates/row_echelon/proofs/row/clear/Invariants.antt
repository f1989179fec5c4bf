use Rattle.std.proofs.Common.{◌≡◌, ℕ, ◌<◌, map, slice_index}
use Rattle.row_echelon.proofs.row.clear.Given as goal

abbrev pub invariant-loop-column : goal.invariant-loop-column
invariant-loop-column g l = (j : ℕ) → j < l.column → slice_index (map g.F.Field.number l.row) j ≡ 0
