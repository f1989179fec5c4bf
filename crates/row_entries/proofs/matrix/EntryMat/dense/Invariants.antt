use Rattle.std.proofs.Common.{◌≡◌, map, take}
use Rattle.row_entries.specs.Rows.{items}
use Rattle.row_entries.specs.Tables.{table_of}
use Rattle.row_entries.proofs.matrix.EntryMat.dense.Given as goal

abbrev pub invariant-loop-row : goal.invariant-loop-row
invariant-loop-row g l =
    l.m ≡ table_of l.self-inside.width (take l.row-index (map (λ row. items g.F.Field.number row.items) l.row-items))
