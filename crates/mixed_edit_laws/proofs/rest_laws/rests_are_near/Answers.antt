use Rattle.mixed_edit_laws.proofs.Rests.{rest-near}
use Rattle.mixed_edit_laws.proofs.rest_laws.rests_are_near.Goals as goal

pub returns : goal.returns
returns c p prime M A D L O e r s layering el = rest-near p prime M A D L O e layering el r s
