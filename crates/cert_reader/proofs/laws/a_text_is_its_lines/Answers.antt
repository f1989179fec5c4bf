use Rattle.cert_reader.proofs.Theorem.{certificate-lines}
use Rattle.cert_reader.proofs.laws.a_text_is_its_lines.Goals as goal

pub returns : goal.returns
returns c = λ d. certificate-lines d
