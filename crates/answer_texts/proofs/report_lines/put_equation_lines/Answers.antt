use Rattle.std.proofs.Common.{codes}
use Rattle.answer_texts.specs.ReportTexts.{name_lines}
use Rattle.answer_texts.proofs.ReportPieces.{names_left}
use Rattle.text_writer.proofs.Putting.{loop_goes_on, loop_begins}
use Rattle.answer_texts.proofs.report_lines.put_equation_lines.Goals as goal

pub loop-equation-init : goal.loop-equation-init
loop-equation-init g c = loop_begins (name_lines (codes "surplus") c.args.model.now.equations c.args.equations.now)

pub loop-equation-preserved : goal.loop-equation-preserved
loop-equation-preserved g c =
    loop_goes_on (names_left (codes "surplus") c.args.model.now.equations c.args.equations.now
    c.loop-equation.equation-index _ c.loop-equation-test.true) c.loop-equation.invariant
    c.put_equation_line.ensures
