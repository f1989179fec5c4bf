use Rattle.std.proofs.Common.{ℕ, ◌≡◌, ◌≢◌, ◌<◌, true, length}
use Rattle.sparse_q.specs.Tables.{number_in}
use Rattle.row_transform.specs.Bases.{is_base, base_row}
use Rattle.sparse_tableau.proofs.leaving.bare_row.Given as goal

abbrev pub invariant-loop-row : goal.invariant-loop-row
invariant-loop-row g l =
    (i : ℕ) → i < l.row → ((y : ℕ) → y < length l.base.rows → is_base l.base y ≡ true → base_row l.base y ≢ i) → number_in l.m i l.col ≡ 0
