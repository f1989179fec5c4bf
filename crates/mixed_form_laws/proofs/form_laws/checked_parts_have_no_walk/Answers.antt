use Rattle.mixed_form_laws.proofs.CheckedParts.{checked-clear}
use Rattle.mixed_form_laws.proofs.form_laws.checked_parts_have_no_walk.Goals as goal

pub returns : goal.returns
returns c = checked-clear
