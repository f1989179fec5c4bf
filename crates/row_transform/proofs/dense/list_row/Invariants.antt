use Rattle.std.proofs.Common.{◌≡◌, ◌≢◌, ℕ, ◌<◌, true}
use Rattle.bit_table.specs.Bits.{bit_in}
use Rattle.row_table.specs.RowTables.{p_part}
use Rattle.row_transform.specs.Entries.{HasTableSize}
use Rattle.row_transform.proofs.dense.list_row.Given as goal

abbrev pub invariant-loop-col : goal.invariant-loop-col
invariant-loop-col g l = record {
  size : HasTableSize l.fn.entries.bits l.entries.bits;
  listed : (j : ℕ) → j < l.col → p_part g.F.Field.modulus l.table l.row j ≢ 0 → bit_in l.entries.bits j l.row ≡ true;
  kept : (i j : ℕ) → i < l.fn.entries.bits.size → bit_in l.fn.entries.bits j i ≡ true → bit_in l.entries.bits j i ≡ true;
}
