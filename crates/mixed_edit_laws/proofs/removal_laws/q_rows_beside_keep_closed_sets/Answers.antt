use Rattle.mixed_edit_laws.proofs.Beside.{q-closed}
use Rattle.mixed_edit_laws.proofs.removal_laws.q_rows_beside_keep_closed_sets.Goals as goal

pub returns : goal.returns
returns c = q-closed
