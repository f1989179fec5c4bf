use Rattle.desk_laws.proofs.OneDialogue.{lines-one}
use Rattle.desk_laws.proofs.laws.lines_have_one_dialogue.Goals as goal

pub returns : goal.returns
returns c = lines-one
