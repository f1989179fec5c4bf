use Rattle.std.proofs.Common.{ap, sym, subst, length}
use Rattle.answer_texts.specs.PlanRanges.{IsRowBelow}
use Rattle.answer_texts.specs.PlanTexts.{row_line, step_row_lines}
use Rattle.answer_texts.proofs.PlanPieces.{rows_left}
use Rattle.text_writer.proofs.Putting.{loop_goes_on, loop_begins, puts_is}
use Rattle.answer_texts.proofs.plan_lines.put_row_lines.Goals as goal

pub loop-row-init : goal.loop-row-init
loop-row-init g c = loop_begins (step_row_lines g.F.Field.number c.args.model.now c.args.rows.now)

pub put_row_line-requires : goal.put_row_line-requires
put_row_line-requires g c =
    subst (IsRowBelow (length c.args.model.now.equations)) (sym c.row-item.is) (c.requires c.loop-row.row-index c.row-item.result c.loop-row-test.true)

pub loop-row-preserved : goal.loop-row-preserved
loop-row-preserved g c =
    loop_goes_on (rows_left g.F.Field.number c.args.model.now c.args.rows.now c.loop-row.row-index c.row-item.result
    c.loop-row-test.true) c.loop-row.invariant
    (puts_is (ap (row_line g.F.Field.number c.args.model.now) c.row-item.is) c.put_row_line.ensures)
