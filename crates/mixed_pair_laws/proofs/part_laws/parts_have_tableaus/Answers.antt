use Rattle.mixed_pair_laws.proofs.TableauParts.{part-has_tableau}
use Rattle.mixed_pair_laws.proofs.part_laws.parts_have_tableaus.Goals as goal

pub returns : goal.returns
returns c p prime L S U F tab R D X holds = part-has_tableau p prime L S U F tab R D X holds.0 holds.1
