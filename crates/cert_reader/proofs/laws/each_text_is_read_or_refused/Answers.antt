use Rattle.cert_reader.proofs.Theorem.{read_or_refused}
use Rattle.cert_reader.proofs.laws.each_text_is_read_or_refused.Goals as goal

pub returns : goal.returns
returns c = λ text short. read_or_refused text short
