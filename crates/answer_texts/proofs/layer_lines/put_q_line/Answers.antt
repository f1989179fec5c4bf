use Rattle.std.proofs.Common.{ap, sym}
use Rattle.dense_q.specs.Tables.{row_at}
use Rattle.answer_texts.specs.LayerTexts.{row_entries_text}
use Rattle.answer_texts.proofs.LayerPieces.{got_or}
use Rattle.text_writer.proofs.Putting.{puts_then, puts_is}
use Rattle.mixed_model.specs.Layers.{Layers}
use Rattle.answer_texts.proofs.layer_lines.put_q_line.Goals as goal
use Rattle.mixed_model.specs.Names.{name_at}

pub returns : goal.returns
returns g c = puts_then (puts_then (puts_then c.put_head.ensures
    (puts_is (ap (name_at c.args.model.now.equations)
    (sym (got_or c.args.layered.now.q_origins c.args.row 0 c.q_origin.result c.q_origin.ensures)))
    c.put_equation_name.ensures))
    (puts_is (ap (λ (l : Layers). row_entries_text 1 (row_at l.q c.args.row)) c.layered.view_is)
    c.put_entries.ensures)) c.piece.ensures
