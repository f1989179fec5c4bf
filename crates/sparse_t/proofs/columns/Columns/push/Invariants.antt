use Rattle.std.proofs.Common.{◌≡◌, ℕ, ◌<◌, ◌≢◌, [], ◌∷◌, ◌++◌, length, slice_index}
use Rattle.sparse_t.specs.Columns.{list_items_at, capacity_at}
use Rattle.sparse_t.proofs.columns.Columns.push.Given as goal

abbrev pub invariant-loop-column : goal.invariant-loop-column
invariant-loop-column l = record {
  count : length l.self.lists.items ≡ length l.fn.self.lists.items;
  entered : (k : ℕ) → k < l.column-index → list_items_at l.self.lists.items (slice_index l.columns k) ≡ list_items_at
      l.fn.self.lists.items (slice_index l.columns k) ++ l.row ∷ [];
  others : (j : ℕ) → ((k : ℕ) → k < l.column-index → slice_index l.columns k ≢ j) → list_items_at l.self.lists.items j ≡ list_items_at l.fn.self.lists.items j;
  capacities : (j : ℕ) → capacity_at l.self.lists.items j ≡ capacity_at l.fn.self.lists.items j;
}
