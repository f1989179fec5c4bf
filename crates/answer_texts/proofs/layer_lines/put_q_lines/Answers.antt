use Rattle.std.proofs.Common.{◌<◌, ◌∙◌, ap, length, arith}
use Rattle.text_writer.proofs.Putting.{loop_goes_on, loop_begins, loop_ends}
use Rattle.answer_texts.specs.LayerTexts.{named_row_lines, q_line}
use Rattle.answer_texts.proofs.LayerPieces.{rows_left, rows_end}
use Rattle.mixed_model.specs.Layers.{Layers}
use Rattle.dense_q.specs.Tables.{height}
use Rattle.answer_texts.proofs.layer_lines.put_q_lines.Goals as goal

pub loop-row-init : goal.loop-row-init
loop-row-init g c = loop_begins (named_row_lines q_line c.args.model.now.equations c.args.layered.now.q_origins 0 c.args.layered.now.q.rows)

pub loop-row-preserved : goal.loop-row-preserved
loop-row-preserved g c =
    let rows = c.args.layered.now.q.rows in
    let within : c.loop-row.row < length rows = omega (arith, c.rows-row-end.ensures.rows ∙ ap (λ (l : Layers). height l.q) c.layered.view_is) in
    loop_goes_on (rows_left q_line c.args.model.now.equations c.args.layered.now.q_origins rows c.loop-row.row within) c.loop-row.invariant c.put_q_line.ensures

pub returns : goal.returns
returns g c =
    let rows = c.args.layered.now.q.rows in
    loop_ends {text = named_row_lines q_line c.args.model.now.equations c.args.layered.now.q_origins 0
    c.args.layered.now.q.rows}
    (rows_end q_line c.args.model.now.equations c.args.layered.now.q_origins rows c.loop-row.row
    (omega (arith, c.rows-row-end.ensures.rows ∙ ap (λ (l : Layers). height l.q) c.layered.view_is)))
    c.loop-row.invariant
