use Rattle.mixed_form_laws.proofs.FirstParts.{first_parts-minimiser}
use Rattle.mixed_form_laws.proofs.finest_laws.first_parts_are_minimisers.Goals as goal

pub returns : goal.returns
returns c p prime L S G form = first_parts-minimiser p prime L S form.0.0 form.0.1 G form.1
