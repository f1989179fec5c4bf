use Rattle.cert_verdict.proofs.OneVerdict.{one-verdict}
use Rattle.cert_verdict.proofs.laws.texts_have_one_verdict.Goals as goal

pub returns : goal.returns
returns c = λ text short a b one two some another. one-verdict text short a b one two some another
