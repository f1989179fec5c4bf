-- What is read over one of the two fields.
use Rattle.cert_text.specs.Contents.{Certificate}
use Rattle.cert_reader.specs.declared.any_certificate.AnyCertificate.{AnyCertificate}
use Rattle.cert_reader.specs.declared.any_certificate.AnyCertificate.TheVariants as certificates

-- the certificate, of whichever field
abbrev pub certificate_in : AnyCertificate → Certificate
certificate_in (certificates.Small certificate) = certificate
certificate_in (certificates.Large certificate) = certificate
