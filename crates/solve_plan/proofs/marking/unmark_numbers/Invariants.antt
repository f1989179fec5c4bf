use Rattle.std.proofs.Common.{◌≡◌, slice_index}
use Rattle.solve_plan.specs.Marks.{OfSome, Unmarks}
use Rattle.solve_plan.proofs.marking.unmark_numbers.Given as goal

abbrev pub invariant-loop-number : goal.invariant-loop-number
invariant-loop-number l = Unmarks (OfSome l.number-index (λ k y. slice_index l.list k ≡ y)) l.fn.marks l.marks
