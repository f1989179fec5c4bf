use Rattle.std.proofs.Common.{◌<◌, ℕ, length, slice_index, ap, sym}
use Rattle.std.proofs.lemmas.List.{get_or_default}
use Rattle.std.proofs.lemmas.Option.{get_or_from_slice_get}
use Rattle.solve_plan.specs.PlanSteps.{row_numbers, symbol_row}
use Rattle.solve_plan.specs.declared.steps.StepRow.TheVariants.{Symbols}
use Rattle.solve_plan.proofs.StepRows.{mapped-more}
use Rattle.solve_plan.proofs.step_rows.put_symbols.Goals as goal

pub loop-row-preserved : goal.loop-row-preserved
loop-row-preserved g c =
    let list = c.args.list.now in
    let k = c.loop-row.row-index in
    let row : ℕ = slice_index list k in
    let low : k < length list = c.loop-row-test.true in
    mapped-more (row_numbers g.F.Field.number) (symbol_row c.args.layered.now) _ c.loop-row.rows.items c.push.new.self.items
    (Symbols c.t_origin.result) list k row
    c.in_ok-push.ensures.items c.loop-row.invariant low (get_or_default list k 0 row low)
    (ap Symbols (sym (get_or_from_slice_get c.args.layered.now.t_origins row c.t_origin.result 0 c.t_origin.ensures)))
