use Rattle.existence_laws.proofs.RightForms.{right-form}
use Rattle.existence_laws.proofs.forms.each_model_has_a_right_form.Goals as goal

pub returns : goal.returns
returns c = right-form
