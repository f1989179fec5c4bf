use Rattle.std.proofs.Common.{◌≡◌, ◌++◌, drop, map}
use Rattle.matrix_picture.specs.declared.layout.Row.TheVariants.{Symbols}
use Rattle.matrix_picture.proofs.layout.push_symbols.Given as goal

abbrev pub invariant-loop-row : goal.invariant-loop-row
invariant-loop-row l = l.rows.items ++ map Symbols (drop l.row-index l.list) ≡ l.initial.rows.items ++ map Symbols l.list
