use Rattle.std.proofs.Common.{ap, ◌+◌, ◌∙◌}
use Rattle.cert_text.specs.Texts.{columns_line}
use Rattle.cert_text.proofs.Pieces.{pattern_left}
use Rattle.text_writer.proofs.Putting.{loop_goes_on, puts_is}
use Rattle.cert_text.proofs.lines.put_pattern.Goals as goal

pub loop-row-preserved : goal.loop-row-preserved
loop-row-preserved g c = loop_goes_on
    (pattern_left c.args.word.now c.args.rows.now c.loop-row.row c.index-rows-row.result c.loop-row-test.true)
    c.loop-row.invariant (puts_is
    (ap (columns_line c.args.word.now (c.loop-row.row + 1)) (c.as_slice.ensures ∙ c.index-rows-row.is))
    c.put_columns_line.ensures)
