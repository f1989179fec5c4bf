use Rattle.desk_laws.proofs.OwnTurns.{own-commands}
use Rattle.desk_laws.proofs.laws.own_commands_are_a_dialogue.Goals as goal

pub returns : goal.returns
returns c = own-commands
