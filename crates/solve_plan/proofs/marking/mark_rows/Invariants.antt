use Rattle.std.proofs.Common.{map, slice_index}
use Rattle.part_arcs.specs.Marking.{first_numbers, row_of_lists}
use Rattle.solve_plan.specs.Marks.{IsItem, Marks, OfSome}
use Rattle.solve_plan.proofs.marking.mark_rows.Given as goal

abbrev pub invariant-loop-row : goal.invariant-loop-row
invariant-loop-row g l = Marks (OfSome l.row-index (λ k. IsItem (row_of_lists (map first_numbers l.rows) (slice_index l.list k)))) l.fn.marks l.marks
