use Rattle.std.proofs.Common.{◌≡◌, ◌≢◌, ℕ, ◌<◌, true}
use Rattle.dense_q.specs.Tables.{height, entry}
use Rattle.bit_table.specs.Bits.{bit_in}
use Rattle.row_transform.specs.Entries.{HasSizeOf}
use Rattle.row_transform.proofs.entries.Entries.of.Given as goal

abbrev pub invariant-loop-row : goal.invariant-loop-row
invariant-loop-row g l = record {
  size : HasSizeOf (height l.q) l.q.width l.entries.bits;
  listed : (i j : ℕ) → i < l.row → j < l.q.width → entry l.q i j ≢ 0 → bit_in l.entries.bits j i ≡ true;
}
