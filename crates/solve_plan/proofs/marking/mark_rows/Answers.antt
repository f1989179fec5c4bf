use Rattle.std.proofs.Common.{map, slice_index}
use Rattle.part_arcs.specs.Marking.{first_numbers, row_of_lists}
use Rattle.solve_plan.specs.Marks.{IsItem}
use Rattle.solve_plan.proofs.MarkSets.{mark-join}
use Rattle.solve_plan.proofs.marking.mark_rows.Goals as goal

pub loop-row-preserved : goal.loop-row-preserved
loop-row-preserved g c = mark-join (λ i. IsItem (row_of_lists (map first_numbers c.args.rows.now)
    (slice_index c.args.list.now i))) c.loop-row.row-index c.args.marks.now c.loop-row.marks c.mark_row.new.marks c.loop-row.invariant c.mark_row.ensures
