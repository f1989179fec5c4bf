use Rattle.mixed_edit_laws.proofs.Rests.{rest-layering}
use Rattle.mixed_edit_laws.proofs.rest_laws.layerings_leave_an_equation.Goals as goal

pub returns : goal.returns
returns c = rest-layering
