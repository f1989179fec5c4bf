use Rattle.mixed_pair_laws.proofs.Minimisers.{closed-minimiser, least_set, least_set-closed, minimiser-closed}
use Rattle.mixed_pair_laws.proofs.minimiser_laws.minimisers_are_the_closed_sets.Goals as goal

pub returns : goal.returns
returns c p prime L F tab clear X = (minimiser-closed p prime L F tab (least_set p L F) (least_set-closed p L F clear) X, closed-minimiser p prime L F tab X)
