use Rattle.std.proofs.Common.{drop}
use Rattle.text_writer.specs.Texts.{PutsUpTo}
use Rattle.answer_texts.specs.PlanTexts.{step_row_lines}
use Rattle.answer_texts.proofs.plan_lines.put_row_lines.Given as goal

abbrev pub invariant-loop-row : goal.invariant-loop-row
invariant-loop-row g l =
    PutsUpTo g.K.Sink l.initial.out l.out (step_row_lines g.F.Field.number l.model l.rows) (step_row_lines g.F.Field.number l.model (drop l.row-index l.rows))
