use Rattle.std.proofs.Common.{◌≡◌, ℕ, ◌<◌, [], vec_len}
use Rattle.sparse_t.specs.Columns.{list_items_at}
use Rattle.sparse_t.proofs.columns.Columns.open.Given as goal

abbrev pub invariant-loop-column : goal.invariant-loop-column
invariant-loop-column l = record {
  count : vec_len l.lists ≡ l._column;
  empty : (j : ℕ) → j < l._column → list_items_at l.lists.items j ≡ [];
}
