use Rattle.std.proofs.Common.{◌≡◌, ◌≢◌, ℕ, ◌<◌, ◌≤◌}
use Rattle.dense_q.specs.Tables.{entry, HasSameSize}
use Rattle.row_table.proofs.matrix_steps.copy_column.Given as goal

abbrev pub invariant-loop-i : goal.invariant-loop-i
invariant-loop-i g l = record {
  size : HasSameSize l.m l.fn.m;
  here : (k : ℕ) → k < l.i → entry l.m k l.j ≡ entry l.fn.m k l.source;
  rest : (k : ℕ) → l.i ≤ k → entry l.m k l.source ≡ entry l.fn.m k l.source;
  others : (k w : ℕ) → w ≢ l.j → entry l.m k w ≡ entry l.fn.m k w;
}
