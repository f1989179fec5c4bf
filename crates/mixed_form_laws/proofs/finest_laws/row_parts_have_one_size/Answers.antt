use Rattle.mixed_form_laws.proofs.RowSizes.{same-rows}
use Rattle.mixed_form_laws.proofs.finest_laws.row_parts_have_one_size.Goals as goal

pub returns : goal.returns
returns c = same-rows
