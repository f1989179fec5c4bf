use Rattle.cert_reader.proofs.Texts.{stripped}
use Rattle.cert_reader.proofs.fronts.behind.Goals as goal

pub returns : goal.returns
returns c = stripped c.args.text.now c.args.bytes.now c.strip_prefix.result c.strip_prefix.ensures.cases
