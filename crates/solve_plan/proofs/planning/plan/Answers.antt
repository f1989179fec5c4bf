use Rattle.solve_plan.proofs.PlanLaws.{plan-made}
use Rattle.solve_plan.proofs.StepRows.{steps-solved}
use Rattle.solve_plan.proofs.planning.plan.Goals as goal

pub returns : goal.returns
returns g c =
    let layers = c.args.layered.now in
    let form = c.args.form.now in
    plan-made g.F.Field.number g.F.Field.modulus g.met.F.Field.prime g.met.F.Field.odd layers form c.last.ensures.ccf (record { steps = c.from_vec.result })
    (steps-solved g.F.Field.number layers form c.last.result.now c.first.result.now c.new-steps.result.items c.put_tail.new.steps.items
    c.put_blocks.new.steps.items
    c.put_tail-2.new.steps.items c.from_vec.result c.last.ensures.last c.first.ensures.first c.new-steps.ensures.items c.in_ok-put_tail.ensures.steps
    c.in_ok-put_blocks.ensures.steps
    c.in_ok-put_tail-2.ensures.steps c.from_vec.ensures)
