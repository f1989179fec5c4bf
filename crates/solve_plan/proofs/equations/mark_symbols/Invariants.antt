use Rattle.std.proofs.Common.{◌≡◌, slice_index}
use Rattle.solve_plan.specs.Marks.{Marks, OfSome}
use Rattle.solve_plan.proofs.equations.mark_symbols.Given as goal

abbrev pub invariant-loop-row : goal.invariant-loop-row
invariant-loop-row g l = Marks (OfSome l.row-index (λ k x. slice_index l.layered.t_origins (slice_index l.rows k) ≡ x)) l.fn.marks l.marks
