use Rattle.mixed_form_laws.proofs.CheckedForms.{checked-form}
use Rattle.mixed_form_laws.proofs.form_laws.checked_parts_are_a_form.Goals as goal

pub returns : goal.returns
returns c = checked-form
