use Rattle.std.proofs.Common.{map, take}
use Rattle.row_entries.specs.Rows.{items}
use Rattle.row_echelon.specs.Echelons.{IsAddedTo}
use Rattle.row_echelon.proofs.row.add_entries.Given as goal

abbrev pub invariant-loop-entry : goal.invariant-loop-entry
invariant-loop-entry g l = IsAddedTo g.F.Field.modulus (g.F.Field.number l.factor) (take l.entry-index (items g.F.Field.number l.entries))
    (map g.F.Field.number l.fn.row) (map g.F.Field.number l.row)
