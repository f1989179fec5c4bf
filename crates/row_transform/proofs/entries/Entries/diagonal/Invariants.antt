use Rattle.std.proofs.Common.{◌≡◌, ℕ, ◌<◌, true}
use Rattle.bit_table.specs.Bits.{bit_in}
use Rattle.row_transform.specs.Entries.{HasSizeOf}
use Rattle.row_transform.proofs.entries.Entries.diagonal.Given as goal

abbrev pub invariant-loop-row : goal.invariant-loop-row
invariant-loop-row l = record {
  size : HasSizeOf l.count l.count l.bits;
  listed : (i : ℕ) → i < l.row → bit_in l.bits i i ≡ true;
}
