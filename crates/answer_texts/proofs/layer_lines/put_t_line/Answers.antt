use Rattle.std.proofs.Common.{ap, sym, ◌∙◌}
use Rattle.cert_text.specs.Texts.{numbers_text}
use Rattle.sparse_t.specs.Incidences.{columns_at}
use Rattle.answer_texts.proofs.LayerPieces.{got_or}
use Rattle.text_writer.proofs.Putting.{puts_then, puts_is}
use Rattle.mixed_model.specs.Layers.{Layers}
use Rattle.answer_texts.proofs.layer_lines.put_t_line.Goals as goal
use Rattle.mixed_model.specs.Names.{name_at}

pub returns : goal.returns
returns g c = puts_then (puts_then (puts_then c.put_head.ensures
    (puts_is (ap (name_at c.args.model.now.equations)
    (sym (got_or c.args.layered.now.t_origins c.args.row 0 c.t_origin.result c.t_origin.ensures)))
    c.put_equation_name.ensures))
    (puts_is (ap numbers_text
    (c.row.ensures.columns ∙ ap (λ (l : Layers). columns_at l.t c.args.row) c.layered.view_is))
    c.put_symbols.ensures)) c.piece.ensures
