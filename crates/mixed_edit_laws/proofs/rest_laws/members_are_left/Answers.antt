use Rattle.mixed_edit_laws.proofs.Members.{left}
use Rattle.mixed_edit_laws.proofs.rest_laws.members_are_left.Goals as goal

pub returns : goal.returns
returns c = left
