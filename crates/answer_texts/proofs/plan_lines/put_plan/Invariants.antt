use Rattle.std.proofs.Common.{drop, ◌+◌}
use Rattle.text_writer.specs.Texts.{PutsUpTo}
use Rattle.answer_texts.specs.PlanTexts.{steps_text}
use Rattle.answer_texts.proofs.plan_lines.put_plan.Given as goal

abbrev pub invariant-loop-place : goal.invariant-loop-place
invariant-loop-place g l =
    PutsUpTo g.K.Sink l.initial.out l.out (steps_text g.F.Field.number l.model l.layered 1 l.plan.steps)
    (steps_text g.F.Field.number l.model l.layered (l.place + 1) (drop l.place l.plan.steps))
