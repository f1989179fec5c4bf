use Rattle.mixed_form_laws.proofs.CanonicalForm.{canonical-one}
use Rattle.mixed_form_laws.proofs.canonical_laws.canonical_parts_are_one.Goals as goal

pub returns : goal.returns
returns c = canonical-one
