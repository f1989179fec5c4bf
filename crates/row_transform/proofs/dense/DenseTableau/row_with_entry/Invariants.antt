use Rattle.std.proofs.Common.{◌≡◌, ◌<◌, ◌%◌, ℕ}
use Rattle.row_table.specs.RowTables.{s_part}
use Rattle.row_transform.proofs.dense.DenseTableau.row_with_entry.Given as goal

abbrev pub invariant-loop-row : goal.invariant-loop-row
invariant-loop-row g l = (i : ℕ) → i < l.row → s_part g.F.Field.modulus l.self.table i l.at % g.F.Field.modulus ≡ 0
