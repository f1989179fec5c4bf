use Rattle.text_lengths.proofs.TextLengths.{certificate-short}
use Rattle.text_lengths.proofs.laws.certificate_texts_are_short.Goals as goal

pub returns : goal.returns
returns c = certificate-short
