use Rattle.std.proofs.Common.{ap, Ok}
use Rattle.std.proofs.lemmas.Result.{err_from_is_err_and}
use Rattle.cert_reader.specs.Certificates.{certificate_in}
use Rattle.cert_reader.proofs.Theorem.{found_is, only_ok, only_err, cause_is}
use Rattle.cert_reader.proofs.reading.read.Goals as goal

pub returns-in_err-certificate-clause-only : goal.returns-in_err-certificate-clause-only
returns-in_err-certificate-clause-only c = λ d is text.
    let same = err_from_is_err_and c.from_residual.result c.from_residual.ensures.1 in
    rw (same.1, same.2) (only_err c.args.bytes.now c.in_err-certificate.field-0.0
    d c.requires c.in_err-certificate.ensures is text)

pub returns-in_err-certificate-clause-refused : goal.returns-in_err-certificate-clause-refused
returns-in_err-certificate-clause-refused c =
    let same = err_from_is_err_and c.from_residual.result c.from_residual.ensures.1 in
    rw (same.1, same.2) (cause_is c.args.bytes.now c.in_err-certificate.field-0.0 c.requires c.in_err-certificate.ensures)

pub returns-clause-found : goal.returns-clause-found
returns-clause-found c = found_is c.args.bytes.now
    (certificate_in c.in_ok-certificate.certificate, c.in_ok-certificate._rest.now) c.requires c.in_ok-certificate.ensures

pub returns-clause-only : goal.returns-clause-only
returns-clause-only c = λ d is text. ap (λ e. Ok e)
    (only_ok c.args.bytes.now
    (certificate_in c.in_ok-certificate.certificate, c.in_ok-certificate._rest.now) d c.requires c.in_ok-certificate.ensures is text)
