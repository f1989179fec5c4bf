use Rattle.mixed_edit_laws.proofs.Rests.{column-out, q-out, t-out}
use Rattle.mixed_edit_laws.proofs.rest_laws.rests_are_edits.Goals as goal

pub returns : goal.returns
returns c p M A D L O e layering el = (
  q-out M A D L O e layering el p,
  t-out M A D L O e layering el p,
  column-out M A D L O e layering el p,
)
