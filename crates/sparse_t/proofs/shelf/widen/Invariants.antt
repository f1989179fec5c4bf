use Rattle.std.proofs.Common.{◌<◌, ◌≤◌, ℕ}
use Rattle.sparse_t.specs.Columns.{capacity_at, HasSameItems}
use Rattle.sparse_t.specs.Shelves.{AreWide}
use Rattle.sparse_t.proofs.shelf.widen.Given as goal

abbrev pub invariant-loop-list : goal.invariant-loop-list
invariant-loop-list l = record {
  same : HasSameItems l.fn.lists l.lists;
  kept : (w : ℕ) → AreWide w l.fn.lists → AreWide w l.lists;
  wide : (i : ℕ) → i < l.list-index → l.width ≤ capacity_at l.lists i;
}
