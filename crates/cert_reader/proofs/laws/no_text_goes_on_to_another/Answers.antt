use Rattle.cert_reader.proofs.Theorem.{no_more}
use Rattle.cert_reader.proofs.laws.no_text_goes_on_to_another.Goals as goal

pub returns : goal.returns
returns c = λ a b more one two short same. no_more a b more one two short same
