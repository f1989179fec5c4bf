use Rattle.std.proofs.Common.{◌≡◌, false, replicate, slice_index}
use Rattle.solve_plan.specs.Marks.{Marks, OfSome}
use Rattle.solve_plan.proofs.equations.with_symbols.Given as goal

abbrev pub invariant-loop-row : goal.invariant-loop-row
invariant-loop-row g l = Marks (OfSome l.row (λ d y. slice_index l.layered.t_origins d ≡ y)) (replicate l.n false) l.marks.items
