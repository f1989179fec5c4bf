use Rattle.std.proofs.Common.{◌-◌, refl, ◌∙◌}
use Rattle.solve_plan.proofs.StepRows.{adds-block}
use Rattle.solve_plan.proofs.planning.put_blocks.Goals as goal

pub step-requires-clause-clear : goal.step-requires-clause-clear
step-requires-clause-clear g c = c.loop-k.invariant.clear ∙ c.requires.clear

pub loop-k-preserved : goal.loop-k-preserved
loop-k-preserved g c =
    let form = c.args.form.now in record {
      steps = adds-block g.F.Field.number c.args.layered.now form form.blocks c.as_slice-blocks.result.now c.loop-k.k
          (c.loop-k.k - 1) c.index-blocks-k.result c.in_ok-step.field-0
          c.args.steps.now.items c.loop-k.steps.items c.push.new.self.items (c.as_slice-blocks.ensures
          ∙ c.blocks-2.ensures.blocks) c.loop-k-test.true c.loop-k.auto.k refl
          c.in_ok-step.ensures.step c.in_ok-push.ensures.items c.loop-k.invariant.steps;
      clear = c.in_ok-step.ensures.clear ∙ c.loop-k.invariant.clear;
    }
