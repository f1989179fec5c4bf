use Rattle.std.proofs.lemmas.Option.{get_or_from_slice_get}
use Rattle.solve_plan.proofs.StepRows.{terms-more}
use Rattle.solve_plan.proofs.step_rows.terms.Goals as goal

pub loop-entry-preserved : goal.loop-entry-preserved
loop-entry-preserved g c =
    let entry = c.entry-item.result in
    terms-more c.args.layered.now.q_origins c.args.entries.now c.loop-entry.terms.items c.push.new.self.items c.loop-entry.entry-index entry c.q_origin.result
    c.in_ok-push.ensures.items c.loop-entry.invariant c.loop-entry-test.true c.entry-item.is
    (get_or_from_slice_get c.args.layered.now.q_origins entry.0 c.q_origin.result 0 c.q_origin.ensures)
