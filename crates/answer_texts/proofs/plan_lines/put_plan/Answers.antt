use Rattle.std.proofs.Common.{◌≡◌, ◌<◌, ◌+◌, length, get_or, ap, subst, arith}
use Rattle.answer_texts.specs.PlanTexts.{step_text}
use Rattle.answer_texts.proofs.PlanPieces.{steps_left}
use Rattle.text_writer.proofs.Putting.{loop_goes_on, puts_is}
use Rattle.answer_texts.proofs.plan_lines.put_plan.Goals as goal

pub loop-place-preserved : goal.loop-place-preserved
loop-place-preserved g c =
    let steps = c.args.plan.now.steps in
    let step = c.step-item.result in
    let same : c.as_slice-step-items.result.now ≡ steps = c.as_slice-step-items.ensures in
    let within : c.loop-place.place < length steps = omega (arith, c.loop-place-test.true, ap length same) in
    let item : step ≡ get_or steps c.loop-place.place step = subst (λ xs. step ≡ get_or xs c.loop-place.place step) same c.step-item.is in
    loop_goes_on (steps_left g.F.Field.number c.args.model.now c.args.layered.now steps c.loop-place.place step within) c.loop-place.invariant
    (puts_is (ap (step_text g.F.Field.number c.args.model.now c.args.layered.now (c.loop-place.place + 1)) item) c.put_step.ensures)
