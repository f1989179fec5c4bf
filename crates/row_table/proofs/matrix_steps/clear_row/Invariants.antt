use Rattle.std.proofs.Common.{◌≡◌, ◌≢◌, ℕ, ◌<◌}
use Rattle.dense_q.specs.Tables.{entry, HasSameSize}
use Rattle.row_table.proofs.matrix_steps.clear_row.Given as goal

abbrev pub invariant-loop-j : goal.invariant-loop-j
invariant-loop-j g l = record {
  size : HasSameSize l.m l.fn.m;
  cleared : (k : ℕ) → k < l.j → entry l.m l.i k ≡ 0;
  others : (u k : ℕ) → u ≢ l.i → entry l.m u k ≡ entry l.fn.m u k;
}
