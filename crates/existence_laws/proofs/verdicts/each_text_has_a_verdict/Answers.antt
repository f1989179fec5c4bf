use Rattle.existence_laws.proofs.TextVerdicts.{text-verdict}
use Rattle.existence_laws.proofs.verdicts.each_text_has_a_verdict.Goals as goal

pub returns : goal.returns
returns c = text-verdict
