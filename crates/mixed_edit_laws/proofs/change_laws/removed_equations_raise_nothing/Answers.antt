use Rattle.mixed_edit_laws.proofs.Wider.{removed}
use Rattle.mixed_edit_laws.proofs.change_laws.removed_equations_raise_nothing.Goals as goal

pub returns : goal.returns
returns c = removed
