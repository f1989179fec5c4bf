use Rattle.mixed_edit_laws.proofs.Beside.{t-closed}
use Rattle.mixed_edit_laws.proofs.removal_laws.t_rows_beside_keep_closed_sets.Goals as goal

pub returns : goal.returns
returns c = t-closed
