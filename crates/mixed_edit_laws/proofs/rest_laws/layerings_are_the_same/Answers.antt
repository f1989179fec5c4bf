use Rattle.mixed_edit_laws.proofs.Rests.{same-layerings}
use Rattle.mixed_edit_laws.proofs.rest_laws.layerings_are_the_same.Goals as goal

pub returns : goal.returns
returns c = same-layerings
