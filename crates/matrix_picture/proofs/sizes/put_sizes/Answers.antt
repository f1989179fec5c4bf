use Rattle.std.proofs.Common.{◌≡◌, List, length, ap, ◌∙◌}
use Rattle.text_writer.specs.Numbers.{spaced}
use Rattle.text_writer.proofs.Putting.{puts_is, puts_then}
use Rattle.cert_text.specs.declared.part.CcfBlock.{CcfBlock}
use Rattle.matrix_picture.specs.Texts.{size_text}
use Rattle.matrix_picture.proofs.sizes.put_sizes.Goals as goal

pub returns : goal.returns
returns g c =
    let blocks : spaced (length c.as_slice.result.now) ≡ spaced (length c.args.ccf.now.blocks) =
    ap (λ (list : List CcfBlock). spaced (length list)) (c.as_slice.ensures ∙ c.blocks-2.ensures.blocks) in
    puts_then (puts_then (puts_then (puts_then (puts_then (puts_then (puts_then c.piece.ensures
    (puts_is (ap size_text c.first.ensures.first) c.put_size.ensures)) c.piece-2.ensures)
    (puts_is blocks c.number.ensures)) c.piece-3.ensures) (puts_is (ap size_text c.last.ensures.last) c.put_size-2.ensures)) c.piece-4.ensures)
    (puts_is (ap spaced c.count_all.ensures) c.number-2.ensures)
