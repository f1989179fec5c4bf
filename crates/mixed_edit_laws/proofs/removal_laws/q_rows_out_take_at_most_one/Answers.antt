use Rattle.mixed_edit_laws.proofs.Removals.{q-rank}
use Rattle.mixed_edit_laws.proofs.removal_laws.q_rows_out_take_at_most_one.Goals as goal

pub returns : goal.returns
returns c p prime L K e r s out = q-rank p prime L K e out r s
