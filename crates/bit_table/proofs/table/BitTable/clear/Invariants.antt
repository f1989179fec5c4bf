use Rattle.std.proofs.Common.{◌≡◌, ℕ, ◌*◌, ◌<◌, ◌≤◌, length, get_or}
use Rattle.bit_table.proofs.table.BitTable.clear.Given as goal

abbrev pub invariant-loop-x : goal.invariant-loop-x
invariant-loop-x l = record {
  rows : l.self.rows ≡ l.initial.self.rows;
  size : l.self.size ≡ l.initial.self.size;
  width : l.self.width ≡ l.initial.self.width;
  length : length l.self.words ≤ l.self.rows * l.self.width;
  empty : (k : ℕ) → k < l.x * l.self.width → get_or l.self.words k 0 ≡ 0;
}
