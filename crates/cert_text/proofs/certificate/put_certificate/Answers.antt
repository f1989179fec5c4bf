use Rattle.std.proofs.Common.{ap, ◌∙◌}
use Rattle.cert_text.specs.Texts.{echo_text, certificate_text}
use Rattle.text_writer.proofs.Putting.{puts_then, puts_is}
use Rattle.cert_text.proofs.certificate.put_certificate.Goals as goal

pub returns : goal.returns
returns g c =
    let version = c.cert.inside.version in
    let kind = c.cert.inside.kind in
    puts_is (ap certificate_text c.cert.view_is)
    (puts_then (puts_is (λ i. echo_text version ((c.MODULUS.ensures ∙ g.met.F.Field.constant) i) kind (c.as_slice.ensures i))
    c.put_echo.ensures) c.put.ensures)
