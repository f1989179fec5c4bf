use Rattle.std.proofs.Common.{◌≡◌, ◌≢◌, ◌%◌, ℕ, ◌<◌, true}
use Rattle.bit_table.specs.Bits.{bit_in}
use Rattle.row_table.specs.RowTables.{s_part}
use Rattle.row_transform.specs.Entries.{HasTableSize}
use Rattle.row_transform.proofs.dense.list_changed.Given as goal

abbrev pub invariant-loop-i : goal.invariant-loop-i
invariant-loop-i g l = record {
  size : HasTableSize l.fn.entries.bits l.entries.bits;
  joined : (i j : ℕ) → i < l.i → j < l.table.q.width → s_part g.F.Field.modulus l.table i l.at % g.F.Field.modulus ≢ 0 →
      bit_in l.fn.entries.bits j l.row ≡ true → bit_in l.entries.bits j i ≡ true;
  kept : (i j : ℕ) → i < l.fn.entries.bits.size → bit_in l.fn.entries.bits j i ≡ true → bit_in l.entries.bits j i ≡ true;
}
