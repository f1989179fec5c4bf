use Rattle.cert_reader.proofs.Theorem.{one_certificate}
use Rattle.cert_reader.proofs.laws.a_text_has_one_certificate.Goals as goal

pub returns : goal.returns
returns c = λ a b one two short same. one_certificate a b one two short same
