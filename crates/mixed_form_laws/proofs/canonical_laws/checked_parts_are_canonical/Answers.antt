use Rattle.mixed_form_laws.proofs.Canonical.{checked-canonical}
use Rattle.mixed_form_laws.proofs.canonical_laws.checked_parts_are_canonical.Goals as goal

pub returns : goal.returns
returns c = checked-canonical
