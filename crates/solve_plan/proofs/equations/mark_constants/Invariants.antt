use Rattle.std.proofs.Common.{◌≡◌, false, slice_index, true}
use Rattle.part_rules.specs.Listed.{marked}
use Rattle.solve_plan.specs.Marks.{Marks, OfSome}
use Rattle.solve_plan.proofs.equations.mark_constants.Given as goal

abbrev pub invariant-loop-row : goal.invariant-loop-row
invariant-loop-row g l =
    Marks (OfSome l.row (λ e x. (slice_index l.layered.q_origins e ≡ x) × (marked l.used e ≡ true) × (marked l.symbols x ≡ false))) l.fn.marks l.marks
