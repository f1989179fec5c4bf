use Rattle.std.proofs.Common.{subst}
use Rattle.cert_reader.specs.Fronts.{GivesReading}
use Rattle.cert_reader.proofs.LineKinds.{head_is}
use Rattle.cert_reader.proofs.linewise.head_at.Goals as goal

pub returns : goal.returns
returns c = subst (λ read. GivesReading (λ x. (tt {0}, x.now)) c.number_head.result read)
    (head_is c.args.word.now c.args.number c.args.line c.args.bytes.now c.requires) c.number_head.ensures
