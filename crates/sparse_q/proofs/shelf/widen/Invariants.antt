use Rattle.std.proofs.Common.{◌<◌, ◌≤◌, ℕ, length, slice_index_or}
use Rattle.sparse_q.specs.Rows.{Row, AreRowsChanged, IsRowWidened}
use Rattle.sparse_q.proofs.shelf.widen.Given as goal

abbrev pub invariant-loop-row : goal.invariant-loop-row
invariant-loop-row g l = record {
  changed : AreRowsChanged IsRowWidened l.fn.rows l.rows;
  wide : (i : ℕ) (d : Row) → i < l.row-index → i < length l.rows → l.columns ≤ (slice_index_or l.rows i d).room;
}
