use Rattle.desk_text_laws.proofs.SaidLengths.{texts-short}
use Rattle.desk_text_laws.proofs.laws.texts_are_short.Goals as goal

pub returns : goal.returns
returns c = texts-short
