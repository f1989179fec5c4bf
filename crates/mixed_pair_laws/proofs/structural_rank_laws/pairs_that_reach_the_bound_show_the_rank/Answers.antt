use Rattle.mixed_pair_laws.proofs.PairRank.{reached-rank}
use Rattle.mixed_pair_laws.proofs.structural_rank_laws.pairs_that_reach_the_bound_show_the_rank.Goals as goal

pub returns : goal.returns
returns c p prime L I J mate pair X r R e = reached-rank p prime L I J mate X r pair R e
