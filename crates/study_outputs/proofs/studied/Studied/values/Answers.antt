use Rattle.std.proofs.Common.{refl}
use Rattle.study_outputs.proofs.studied.Studied.values.Goals as goal

pub returns : goal.returns
returns g c = λ kind input gives. (refl, gives, c.in_ok-told.ensures)
