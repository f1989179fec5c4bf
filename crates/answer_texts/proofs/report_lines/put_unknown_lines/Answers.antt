use Rattle.std.proofs.Common.{codes}
use Rattle.answer_texts.specs.ReportTexts.{name_lines}
use Rattle.answer_texts.proofs.ReportPieces.{names_left}
use Rattle.text_writer.proofs.Putting.{loop_goes_on, loop_begins}
use Rattle.answer_texts.proofs.report_lines.put_unknown_lines.Goals as goal

pub loop-unknown-init : goal.loop-unknown-init
loop-unknown-init g c = loop_begins (name_lines (codes "undetermined") c.args.model.now.unknowns c.args.unknowns.now)

pub loop-unknown-preserved : goal.loop-unknown-preserved
loop-unknown-preserved g c =
    loop_goes_on (names_left (codes "undetermined") c.args.model.now.unknowns c.args.unknowns.now
    c.loop-unknown.unknown-index _ c.loop-unknown-test.true) c.loop-unknown.invariant c.put_unknown_line.ensures
