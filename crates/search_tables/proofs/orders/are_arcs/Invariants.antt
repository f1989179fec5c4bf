use Rattle.std.proofs.Common.{ℕ, ◌<◌}
use Rattle.part_orders.proofs.ItemLaws.{left, right}
use Rattle.search_tables.proofs.orders.are_arcs.Given as goal

abbrev pub invariant-loop-i : goal.invariant-loop-i
invariant-loop-i l = (j : ℕ) → j < l.i → (left l.arcs j < l.places) × (right l.arcs j < l.places)
