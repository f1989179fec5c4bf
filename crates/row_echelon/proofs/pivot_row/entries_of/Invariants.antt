use Rattle.std.proofs.Common.{map}
use Rattle.row_entries.specs.Rows.{items}
use Rattle.row_echelon.specs.Echelons.{AreEntriesOf}
use Rattle.row_echelon.proofs.pivot_row.entries_of.Given as goal

abbrev pub invariant-loop-column : goal.invariant-loop-column
invariant-loop-column g l = AreEntriesOf g.F.Field.modulus (g.F.Field.number l.factor) l.column (map g.F.Field.number l.row)
    (items g.F.Field.number l.entries.items)
