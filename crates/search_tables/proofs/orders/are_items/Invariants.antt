use Rattle.std.proofs.Common.{ℕ, ◌<◌, ◌≤◌}
use Rattle.part_orders.proofs.ItemLaws.{left, right}
use Rattle.search_tables.proofs.orders.are_items.Given as goal

abbrev pub invariant-loop-i : goal.invariant-loop-i
invariant-loop-i l = record {
  within : (j : ℕ) → j < l.i → (left l.lower j < l.blocks) × (right l.lower j < left l.lower j);
  last : (j : ℕ) → j < l.i → left l.lower j ≤ l.last;
  rising : (j m : ℕ) → j < m → m < l.i → left l.lower j ≤ left l.lower m;
}
