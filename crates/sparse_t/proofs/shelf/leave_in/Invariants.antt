use Rattle.std.proofs.Common.{◌≡◌, ◌≢◌, ◌<◌, ℕ, length, slice_index}
use Rattle.sparse_t.specs.Columns.{list_items_at, capacity_at}
use Rattle.sparse_t.specs.Shelves.{IsNumberTaken}
use Rattle.sparse_t.proofs.shelf.leave_in.Given as goal

abbrev pub invariant-loop-column : goal.invariant-loop-column
invariant-loop-column l = record {
  count : length l.lists ≡ length l.fn.lists;
  changed : (k : ℕ) → k < l.column-index → IsNumberTaken l.number (list_items_at l.fn.lists (slice_index l.columns k))
      (list_items_at l.lists (slice_index l.columns k));
  others : (j : ℕ) → ((k : ℕ) → k < l.column-index → slice_index l.columns k ≢ j) → list_items_at l.lists j ≡ list_items_at l.fn.lists j;
  capacities : (j : ℕ) → capacity_at l.lists j ≡ capacity_at l.fn.lists j;
}
