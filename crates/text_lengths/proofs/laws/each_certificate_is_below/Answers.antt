use Rattle.text_lengths.proofs.TextLengths.{certificate-below}
use Rattle.text_lengths.proofs.laws.each_certificate_is_below.Goals as goal

pub returns : goal.returns
returns c = certificate-below
