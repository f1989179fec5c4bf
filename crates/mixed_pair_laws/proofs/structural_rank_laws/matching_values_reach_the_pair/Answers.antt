use Rattle.mixed_pair_laws.proofs.PairRank.{pair-reached}
use Rattle.mixed_pair_laws.proofs.structural_rank_laws.matching_values_reach_the_pair.Goals as goal

pub returns : goal.returns
returns c p prime L I J mate pair s R = pair-reached p prime L I J mate pair s R
