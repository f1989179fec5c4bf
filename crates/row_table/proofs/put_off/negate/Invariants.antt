use Rattle.std.proofs.Common.{◌≡◌, ℕ, ◌<◌, ◌≤◌, ◌+◌, ◌%◌, length, map, slice_index}
use Rattle.row_table.proofs.put_off.negate.Given as goal

abbrev pub invariant-loop-i : goal.invariant-loop-i
invariant-loop-i g l = record {
  length : length l.column ≡ length l.fn.column;
  negative : (k : ℕ) → k < l.i →
      (slice_index (map g.F.Field.number l.fn.column) k + slice_index (map g.F.Field.number l.column)
      k) % g.F.Field.modulus ≡ 0;
  rest : (k : ℕ) → l.i ≤ k → slice_index (map g.F.Field.number l.column) k
      ≡ slice_index (map g.F.Field.number l.fn.column) k;
}
