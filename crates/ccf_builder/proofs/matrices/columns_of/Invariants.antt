use Rattle.std.proofs.Common.{◌≡◌, take}
use Rattle.ccf_builder.proofs.matrices.columns_of.Given as goal

abbrev pub invariant-loop-column : goal.invariant-loop-column
invariant-loop-column l = l.columns.items ≡ take l.column-index l.row
