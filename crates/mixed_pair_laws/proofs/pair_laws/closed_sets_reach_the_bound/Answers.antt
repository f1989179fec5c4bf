use Rattle.mixed_pair_laws.proofs.Minimisers.{closed-equal, equal-closed}
use Rattle.mixed_pair_laws.proofs.pair_laws.closed_sets_reach_the_bound.Goals as goal

pub returns : goal.returns
returns c p prime L F tab X r R = (equal-closed p prime L F tab X r R, closed-equal p prime L F tab X r R)
