use Rattle.std.proofs.Common.{◌≡◌, ◌++◌, map, take}
use Rattle.solve_plan.specs.PlanSteps.{combined_row, row_numbers}
use Rattle.solve_plan.proofs.step_rows.put_combined.Given as goal

abbrev pub invariant-loop-row : goal.invariant-loop-row
invariant-loop-row g l =
    map (row_numbers g.F.Field.number) l.rows.items ≡ map (row_numbers g.F.Field.number) l.fn.rows.items ++ map (combined_row l.layered l.form)
    (take l.row-index l.list)
