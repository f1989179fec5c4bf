use Rattle.std.proofs.Common.{◌≡◌, map}
use Rattle.row_entries.specs.Rows.{items}
use Rattle.row_entries.specs.Tables.{numbers_of}
use Rattle.row_entries.proofs.matrix.values_of.Given as goal

abbrev pub invariant-loop-col : goal.invariant-loop-col
invariant-loop-col g l = map g.F.Field.number l.values.items ≡ numbers_of l.col (items g.F.Field.number l.row)
