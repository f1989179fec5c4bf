use Rattle.std.proofs.Common.{slice_index}
use Rattle.part_arcs.specs.Marking.{row_of_lists}
use Rattle.solve_plan.specs.Marks.{IsItem, Marks, OfSome}
use Rattle.solve_plan.proofs.marking.mark_lists.Given as goal

abbrev pub invariant-loop-i : goal.invariant-loop-i
invariant-loop-i l = Marks (OfSome l.i-index (λ k. IsItem (row_of_lists l.lists (slice_index l.which k)))) l.fn.marks l.marks
