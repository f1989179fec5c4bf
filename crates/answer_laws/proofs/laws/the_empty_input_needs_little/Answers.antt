use Rattle.answer_laws.proofs.EmptyRooms.{needs-little}
use Rattle.answer_laws.proofs.laws.the_empty_input_needs_little.Goals as goal

pub returns : goal.returns
returns c = needs-little
