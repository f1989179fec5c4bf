use Rattle.mixed_pair_laws.proofs.Minimisers.{tableau-pair}
use Rattle.mixed_pair_laws.proofs.pair_laws.tableaus_hold_pairs.Goals as goal

pub returns : goal.returns
returns c = tableau-pair
