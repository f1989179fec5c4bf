use Rattle.mixed_edit_laws.proofs.Wider.{added}
use Rattle.mixed_edit_laws.proofs.change_laws.added_equations_raise_by_at_most_two.Goals as goal

pub returns : goal.returns
returns c = added
