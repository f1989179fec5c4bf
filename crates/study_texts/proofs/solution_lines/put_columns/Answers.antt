use Rattle.answer_texts.specs.PlanTexts.{column_items}
use Rattle.answer_texts.proofs.PlanPieces.{columns_left}
use Rattle.text_writer.proofs.Putting.{loop_begins, loop_goes_on}
use Rattle.study_texts.proofs.solution_lines.put_columns.Goals as goal

pub loop-column-init : goal.loop-column-init
loop-column-init g c = loop_begins (column_items c.args.model.now c.args.layered.now c.args.columns.now)

pub loop-column-preserved : goal.loop-column-preserved
loop-column-preserved g c = loop_goes_on (columns_left c.args.model.now c.args.layered.now c.args.columns.now
    c.loop-column.column-index _ c.loop-column-test.true) c.loop-column.invariant c.put_column.ensures
