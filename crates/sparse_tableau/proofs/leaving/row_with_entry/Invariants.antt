use Rattle.std.proofs.Common.{ℕ, ◌≡◌, ◌<◌}
use Rattle.sparse_q.specs.Tables.{number_in}
use Rattle.sparse_tableau.proofs.leaving.row_with_entry.Given as goal

abbrev pub invariant-loop-row : goal.invariant-loop-row
invariant-loop-row g l = (i : ℕ) → i < l.row → number_in l.m i l.col ≡ 0
