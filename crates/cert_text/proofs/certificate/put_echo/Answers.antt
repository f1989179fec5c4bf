use Rattle.text_writer.proofs.Putting.{puts_then, puts_is}
use Rattle.cert_text.proofs.certificate.put_echo.Goals as goal

pub returns : goal.returns
returns g c = puts_then (puts_then (puts_then (puts_then (puts_then
    (puts_then (puts_then c.put_version.ensures c.piece.ensures) (puts_is c.word_of.ensures c.piece-2.ensures))
    c.piece-3.ensures) c.number.ensures) c.piece-4.ensures) c.piece-5.ensures) c.piece-6.ensures
