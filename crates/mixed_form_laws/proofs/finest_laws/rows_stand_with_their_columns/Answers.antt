use Rattle.mixed_pair_laws.proofs.MinMax.{best-clear}
use Rattle.mixed_pair_laws.proofs.TableauParts.{tableau}
use Rattle.mixed_form_laws.proofs.RightRows.{form-rows}
use Rattle.mixed_form_laws.proofs.finest_laws.rows_stand_with_their_columns.Goals as goal

pub returns : goal.returns
returns c p prime L S U F tab best G form = form-rows p prime L S U F tab (best-clear p prime L F (tableau p prime L S U F tab) best) G form.1
