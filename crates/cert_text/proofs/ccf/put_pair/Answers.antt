use Rattle.text_writer.proofs.Putting.{puts_then}
use Rattle.cert_text.proofs.ccf.put_pair.Goals as goal

pub returns : goal.returns
returns g c = puts_then (puts_then (puts_then (puts_then
    (puts_then (puts_then c.piece.ensures c.number.ensures) c.piece-2.ensures) c.put_pairs.ensures) c.piece-3.ensures) c.put_pairs-2.ensures) c.piece-4.ensures
