use Rattle.mixed_form_laws.proofs.Finest.{canonical-finest}
use Rattle.mixed_form_laws.proofs.finest_laws.canonical_parts_are_finest.Goals as goal

pub returns : goal.returns
returns c p prime L G C S H form = canonical-finest p prime L G C S H form
