use Rattle.std.proofs.Common.{ap}
use Rattle.study_answers.specs.declared.values.ValueAt.{ValueAt}
use Rattle.study_texts.specs.ValueTexts.{symbol_line, symbol_lines}
use Rattle.study_texts.proofs.Pieces.{symbols-left}
use Rattle.text_writer.proofs.Putting.{loop_begins, loop_goes_on, puts_is}
use Rattle.study_texts.proofs.value_lines.put_symbol_lines.Goals as goal

pub loop-at-init : goal.loop-at-init
loop-at-init g c = loop_begins (symbol_lines g.F.Field.number c.args.model.now c.args.values.now)

pub loop-at-preserved : goal.loop-at-preserved
loop-at-preserved g c = loop_goes_on (symbols-left g.F.Field.number c.args.model.now c.args.values.now
    c.loop-at.at-index c.at-item.result c.loop-at-test.true) c.loop-at.invariant
    (puts_is (ap (λ (z : ValueAt g.row.F.Denot). symbol_line c.args.model.now z.place (g.F.Field.number z.value)) c.at-item.is)
    c.put_symbol_line.ensures)
