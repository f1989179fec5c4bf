use Rattle.std.proofs.Common.{◌≡◌, ◌≢◌, ℕ, ◌<◌, ◌≤◌}
use Rattle.dense_q.specs.Tables.{entry, HasSameSize}
use Rattle.row_table.proofs.matrix_steps.copy_row.Given as goal

abbrev pub invariant-loop-j : goal.invariant-loop-j
invariant-loop-j g l = record {
  size : HasSameSize l.larger l.fn.larger;
  here : (k : ℕ) → k < l.j → entry l.larger l.i k ≡ entry l.m l.i k;
  rest : (k : ℕ) → l.j ≤ k → entry l.larger l.i k ≡ 0;
  others : (u k : ℕ) → u ≢ l.i → entry l.larger u k ≡ entry l.fn.larger u k;
}
