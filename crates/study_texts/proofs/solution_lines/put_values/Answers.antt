use Rattle.std.proofs.Common.{ap}
use Rattle.mixed_model.specs.Names.{name_at}
use Rattle.study_texts.specs.SolutionTexts.{value_line, value_lines}
use Rattle.study_texts.proofs.Pieces.{values-left}
use Rattle.text_writer.proofs.Putting.{loop_begins, loop_goes_on, puts_is}
use Rattle.study_texts.proofs.solution_lines.put_values.Goals as goal

pub loop-unknown-init : goal.loop-unknown-init
loop-unknown-init g c = loop_begins (value_lines g.F.Field.number c.args.model.now.unknowns 0 c.args.values.now)

pub loop-unknown-preserved : goal.loop-unknown-preserved
loop-unknown-preserved g c = loop_goes_on (values-left g.F.Field.number c.args.model.now.unknowns c.args.values.now
    c.loop-unknown.unknown c.index-values-unknown.result c.loop-unknown-test.true) c.loop-unknown.invariant
    (puts_is (ap (λ v. value_line (name_at c.args.model.now.unknowns c.loop-unknown.unknown) (g.F.Field.number v)) c.index-values-unknown.is)
    c.put_value.ensures)
