use Rattle.mixed_form_laws.proofs.FirstParts.{form-ranks}
use Rattle.mixed_form_laws.proofs.finest_laws.diagonal_ranks_add_up.Goals as goal

pub returns : goal.returns
returns c p prime L S G form r R = form-ranks p prime L S form.0.0 form.0.1 G form.1 r R
