use Rattle.std.proofs.Common.{drop}
use Rattle.text_writer.specs.Texts.{PutsUpTo}
use Rattle.answer_texts.specs.PlanTexts.{column_items}
use Rattle.study_texts.proofs.solution_lines.put_columns.Given as goal

abbrev pub invariant-loop-column : goal.invariant-loop-column
invariant-loop-column g l =
    PutsUpTo g.K.Sink l.initial.out l.out (column_items l.model l.layered l.columns) (column_items l.model l.layered (drop l.column-index l.columns))
