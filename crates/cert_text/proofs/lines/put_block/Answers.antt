use Rattle.std.proofs.Common.{ap}
use Rattle.cert_text.specs.Texts.{numbers_text}
use Rattle.text_writer.proofs.Putting.{puts_then, puts_is}
use Rattle.cert_text.proofs.lines.put_block.Goals as goal

pub returns : goal.returns
returns g c = puts_then (puts_then (puts_then (puts_then c.put_head.ensures c.put_part.ensures) c.piece.ensures)
    (puts_is (ap numbers_text c.as_slice.ensures) c.put_numbers.ensures)) c.piece-2.ensures
