use Rattle.std.proofs.Common.{sym, ◌∙◌}
use Rattle.solve_plan.proofs.StepRows.{adds-tail}
use Rattle.solve_plan.proofs.planning.put_tail.Goals as goal

pub returns-in_ok-push-clause-steps : goal.returns-in_ok-push-clause-steps
returns-in_ok-push-clause-steps g c =
    adds-tail g.F.Field.number c.args.layered.now c.args.form.now c.args.name c.args.tail.now c.in_ok-step.field-0 c.args.steps.now.items
    c.push.new.self.items
    (sym c.is_bare.ensures ∙ c.if-not-is_bare.true) c.in_ok-step.ensures.step c.in_ok-push.ensures.items
