use Rattle.mixed_form_laws.proofs.CanonicalForm.{canonical_form}
use Rattle.mixed_form_laws.proofs.canonical_laws.each_layered_matrix_has_a_canonical_form.Goals as goal

pub returns : goal.returns
returns c = canonical_form
