use Rattle.std.proofs.Common.{◌≡◌, slice_index}
use Rattle.part_arcs.specs.Marking.{first_numbers}
use Rattle.solve_plan.specs.Marks.{Marks, OfSome}
use Rattle.solve_plan.proofs.marking.mark_row.Given as goal

abbrev pub invariant-loop-item : goal.invariant-loop-item
invariant-loop-item g l = Marks (OfSome l.item-index (λ k y. slice_index (first_numbers l.items) k ≡ y)) l.fn.marks l.marks
