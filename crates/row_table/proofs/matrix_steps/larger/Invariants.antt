use Rattle.std.proofs.Common.{◌≡◌, ℕ, ◌<◌, ◌≤◌}
use Rattle.dense_q.specs.Tables.{height, entry}
use Rattle.row_table.proofs.matrix_steps.larger.Given as goal

abbrev pub invariant-loop-i : goal.invariant-loop-i
invariant-loop-i g l = record {
  rows : height l.larger ≡ l.rows;
  columns : l.larger.width ≡ l.columns;
  same : (k w : ℕ) → k < l.i → entry l.larger k w ≡ entry l.m k w;
  rest : (k w : ℕ) → l.i ≤ k → entry l.larger k w ≡ 0;
}
