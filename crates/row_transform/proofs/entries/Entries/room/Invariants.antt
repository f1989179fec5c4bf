use Rattle.std.proofs.Common.{◌≡◌, ◌<◌, ℕ, true}
use Rattle.bit_table.specs.Bits.{bit_in}
use Rattle.row_transform.proofs.entries.Entries.room.Given as goal

abbrev pub invariant-loop-col : goal.invariant-loop-col
invariant-loop-col l = record {
  rows : l.bits.rows ≡ l.fn.room.columns;
  size : l.bits.size ≡ l.fn.room.rows;
  listed : (i j : ℕ) → i < l.matrix.rows → j < l.col → bit_in l.self.bits j i ≡ true → bit_in l.bits j i ≡ true;
}
