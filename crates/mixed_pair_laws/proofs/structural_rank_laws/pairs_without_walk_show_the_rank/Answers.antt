use Rattle.mixed_pair_laws.proofs.Minimisers.{least_set, least_set-closed}
use Rattle.mixed_pair_laws.proofs.PairRank.{closed-rank}
use Rattle.mixed_pair_laws.proofs.structural_rank_laws.pairs_without_walk_show_the_rank.Goals as goal

pub returns : goal.returns
returns c p prime L F tab clear = closed-rank p prime L F tab (least_set p L F) (least_set-closed p L F clear)
