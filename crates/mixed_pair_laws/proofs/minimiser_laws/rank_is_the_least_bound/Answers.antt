use Rattle.mixed_pair_laws.proofs.MinMax.{minimiser-reached, rank-at_most, reached-minimiser}
use Rattle.mixed_pair_laws.proofs.minimiser_laws.rank_is_the_least_bound.Goals as goal

pub returns : goal.returns
returns c p prime L X r R K S = (rank-at_most p prime L X r R K S, (minimiser-reached p prime L X r R K S, reached-minimiser p prime L X r R K S))
