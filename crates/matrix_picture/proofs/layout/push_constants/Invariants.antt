use Rattle.std.proofs.Common.{◌≡◌, ◌++◌, drop, map}
use Rattle.matrix_picture.specs.declared.layout.Row.TheVariants.{Constants}
use Rattle.matrix_picture.proofs.layout.push_constants.Given as goal

abbrev pub invariant-loop-row : goal.invariant-loop-row
invariant-loop-row l = l.rows.items ++ map Constants (drop l.row-index l.list) ≡ l.initial.rows.items ++ map Constants l.list
