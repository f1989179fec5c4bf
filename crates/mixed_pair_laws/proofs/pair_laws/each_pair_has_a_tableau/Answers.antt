use Rattle.mixed_pair_laws.proofs.PairTableaus.{pair_tableau}
use Rattle.mixed_pair_laws.proofs.pair_laws.each_pair_has_a_tableau.Goals as goal

pub returns : goal.returns
returns c = pair_tableau
