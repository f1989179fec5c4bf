use Rattle.std.proofs.Common.{ap, ◌∙◌}
use Rattle.cert_text.specs.Texts.{spaced}
use Rattle.text_writer.proofs.Putting.{puts_then, puts_is}
use Rattle.mixed_model.specs.Layers.{Layers}
use Rattle.answer_texts.proofs.layer_lines.put_columns.Goals as goal

pub returns : goal.returns
returns g c = puts_then (puts_then (puts_then c.piece.ensures
    (puts_is (ap spaced (c.cols.ensures.cols ∙ ap (λ
    (l : Layers). l.q.width) c.layered.view_is)) c.number.ensures)) c.piece-2.ensures) c.put_column_lines.ensures
