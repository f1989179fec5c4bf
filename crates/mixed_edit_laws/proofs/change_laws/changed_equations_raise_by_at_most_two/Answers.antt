use Rattle.mixed_edit_laws.proofs.Wider.{changed}
use Rattle.mixed_edit_laws.proofs.change_laws.changed_equations_raise_by_at_most_two.Goals as goal

pub returns : goal.returns
returns c = changed
