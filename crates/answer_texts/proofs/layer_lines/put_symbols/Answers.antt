use Rattle.std.proofs.Common.{drop, ◌+◌, ◌++◌, ap, sym, ◌∙◌}
use Rattle.cert_text.specs.Texts.{spaced, numbers_text}
use Rattle.cert_text.proofs.Pieces.{numbers_left}
use Rattle.text_writer.proofs.Putting.{loop_goes_on, loop_begins}
use Rattle.answer_texts.proofs.layer_lines.put_symbols.Goals as goal

pub loop-column-init : goal.loop-column-init
loop-column-init g c = loop_begins (numbers_text c.args.columns.now)

pub loop-column-preserved : goal.loop-column-preserved
loop-column-preserved g c =
    let rest = numbers_text (drop (c.loop-column.column-index + 1) c.args.columns.now) in
    loop_goes_on (numbers_left c.args.columns.now c.loop-column.column-index _ c.loop-column-test.true
    ∙ ap (λ n. spaced (n + 1) ++ rest) (sym c.from.ensures)) c.loop-column.invariant c.number.ensures
