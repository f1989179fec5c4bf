use Rattle.std.proofs.Common.{ap, ◌+◌, ◌∙◌}
use Rattle.cert_text.specs.Contents.{numbered, numbered_rows}
use Rattle.cert_text.specs.Texts.{matrix_text, entries_line}
use Rattle.cert_text.proofs.Pieces.{matrix_left}
use Rattle.text_writer.proofs.Putting.{loop_begins, loop_goes_on, puts_is}
use Rattle.cert_text.proofs.lines.put_matrix.Goals as goal

pub loop-row-init : goal.loop-row-init
loop-row-init g c = loop_begins (matrix_text c.args.word.now 1 (numbered_rows g.F.Field.number c.args.rows.now))

pub loop-row-preserved : goal.loop-row-preserved
loop-row-preserved g c = loop_goes_on
    (matrix_left g.F.Field.number c.args.word.now c.args.rows.now c.loop-row.row c.index-rows-row.result
    c.loop-row-test.true) c.loop-row.invariant
    (puts_is (ap (λ z. entries_line c.args.word.now (c.loop-row.row + 1) (numbered g.F.Field.number z))
    (c.as_slice.ensures ∙ c.index-rows-row.is)) c.put_entries_line.ensures)
