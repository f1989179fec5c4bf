use Rattle.cert_reader.specs.CertLines.{IsCertificate, certificate_lines}
use Rattle.cert_reader.proofs.Lines.{one_refused}
use Rattle.cert_reader.proofs.laws.one_line_is_refused.Goals as goal

pub returns : goal.returns
returns c = λ text j k one two. one_refused IsCertificate certificate_lines text j k one.0 two.0 one.1 two.1 one.2 two.2
