use Rattle.std.proofs.Common.{◌≡◌, ◌<◌, ◌%◌, ℕ}
use Rattle.row_table.specs.RowTables.{s_part}
use Rattle.row_transform.specs.Dense.{IsBareRow}
use Rattle.row_transform.proofs.dense.DenseTableau.bare_row.Given as goal

abbrev pub invariant-loop-row : goal.invariant-loop-row
invariant-loop-row g l = (i : ℕ) → i < l.row → IsBareRow l.self i → s_part g.F.Field.modulus l.self.table i l.at % g.F.Field.modulus ≡ 0
