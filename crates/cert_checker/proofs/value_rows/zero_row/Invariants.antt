use Rattle.std.proofs.Common.{◌≡◌, map, replicate}
use Rattle.cert_checker.proofs.value_rows.zero_row.Given as goal

abbrev pub invariant-loop-column : goal.invariant-loop-column
invariant-loop-column g l = map g.F.Field.number l.row.items ≡ replicate l._column 0
