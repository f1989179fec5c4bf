use Rattle.study_texts.specs.ConflictTexts.{name_items}
use Rattle.study_texts.proofs.Pieces.{names-left}
use Rattle.text_writer.proofs.Putting.{loop_begins, loop_goes_on}
use Rattle.study_texts.proofs.conflict_lines.put_names.Goals as goal

pub loop-equation-init : goal.loop-equation-init
loop-equation-init g c = loop_begins (name_items c.args.model.now.equations c.args.equations.now)

pub loop-equation-preserved : goal.loop-equation-preserved
loop-equation-preserved g c = loop_goes_on (names-left c.args.model.now.equations c.args.equations.now
    c.loop-equation.equation-index _ c.loop-equation-test.true) c.loop-equation.invariant c.put_name.ensures
