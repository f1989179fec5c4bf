use Rattle.std.proofs.Common.{slice_index, subst, ◌∙◌}
use Rattle.part_arcs.specs.Marking.{row_of_lists}
use Rattle.part_arcs.proofs.MarkLaws.{row-given}
use Rattle.solve_plan.specs.Marks.{IsItem, Marks}
use Rattle.solve_plan.proofs.MarkSets.{mark-join}
use Rattle.solve_plan.proofs.marking.mark_lists.Goals as goal

pub loop-i-preserved : goal.loop-i-preserved
loop-i-preserved c =
    let lists = c.args.lists.now in
    let which = c.args.which.now in
    let k = c.loop-i.i-index in
    let row = c.as_slice.result.now in
    mark-join (λ j. IsItem (row_of_lists lists (slice_index which j))) k c.args.marks.now c.loop-i.marks c.mark_numbers.new.marks c.loop-i.invariant
    (subst (λ list. Marks (IsItem list) c.loop-i.marks c.mark_numbers.new.marks)
    (row-given lists (slice_index which k) row c.index-lists-i.result (c.requires.which k 0 c.loop-i-test.true) (c.as_slice.ensures
    ∙ c.index-lists-i.is)) c.mark_numbers.ensures)
