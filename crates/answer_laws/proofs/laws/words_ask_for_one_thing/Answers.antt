use Rattle.command_line.proofs.Asking.{request-one}
use Rattle.answer_laws.proofs.laws.words_ask_for_one_thing.Goals as goal

pub returns : goal.returns
returns c = request-one
