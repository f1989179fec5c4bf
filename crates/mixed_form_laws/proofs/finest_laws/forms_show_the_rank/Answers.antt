use Rattle.mixed_form_laws.proofs.FirstParts.{form-rank}
use Rattle.mixed_form_laws.proofs.finest_laws.forms_show_the_rank.Goals as goal

pub returns : goal.returns
returns c p prime L S G form r R = form-rank p prime L S form.0.0 form.0.1 G form.1 r R
