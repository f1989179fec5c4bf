use Rattle.std.proofs.Common.{◌≡◌, ◌++◌, ◌≤◌, ℕ, length, map, take, drop}
use Rattle.linear_algebra.specs.Parts.{unskip}
use Rattle.sparse_t.specs.Columns.{list_items_at, capacity_at}
use Rattle.sparse_t.proofs.shelf.lower_lists.Given as goal

abbrev pub invariant-loop-list : goal.invariant-loop-list
invariant-loop-list l = record {
  count : length l.lists ≡ length l.fn.lists;
  items : map (λ list. list.items) l.lists ≡ map (map (unskip l.at)) (take l.list-index (map (λ list. list.items) l.fn.lists))
      ++ drop l.list-index (map (λ list. list.items) l.fn.lists);
  rest : (j : ℕ) → l.list-index ≤ j → list_items_at l.lists j ≡ list_items_at l.fn.lists j;
  capacities : (j : ℕ) → capacity_at l.lists j ≡ capacity_at l.fn.lists j;
}
