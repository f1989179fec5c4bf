use Rattle.std.proofs.Common.{◌≡◌, ◌++◌, map, take}
use Rattle.solve_plan.specs.PlanSteps.{row_numbers, symbol_row}
use Rattle.solve_plan.proofs.step_rows.put_symbols.Given as goal

abbrev pub invariant-loop-row : goal.invariant-loop-row
invariant-loop-row g l =
    map (row_numbers g.F.Field.number) l.rows.items ≡ map (row_numbers g.F.Field.number) l.fn.rows.items ++ map (symbol_row l.layered)
    (take l.row-index l.list)
