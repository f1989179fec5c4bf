use Rattle.mixed_edit_laws.proofs.Removals.{column-rank}
use Rattle.mixed_edit_laws.proofs.removal_laws.empty_columns_out_take_nothing.Goals as goal

pub returns : goal.returns
returns c p prime L K v r s out = column-rank p prime L K v out r s
