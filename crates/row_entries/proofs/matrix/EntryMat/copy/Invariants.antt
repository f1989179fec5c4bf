use Rattle.std.proofs.Common.{◌≡◌, map, take}
use Rattle.row_entries.specs.Rows.{items}
use Rattle.row_entries.proofs.matrix.EntryMat.copy.Given as goal

abbrev pub invariant-loop-row : goal.invariant-loop-row
invariant-loop-row g l =
    map (λ row. items g.F.Field.number row.items) l.rows.items
    ≡ take l.row-index (map (λ row. items g.F.Field.number row.items) l.row-items)
