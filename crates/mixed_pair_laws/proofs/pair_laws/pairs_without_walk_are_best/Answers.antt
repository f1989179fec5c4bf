use Rattle.mixed_pair_laws.proofs.MinMax.{best-clear}
use Rattle.mixed_pair_laws.proofs.Minimisers.{closed-best, least_set, least_set-closed}
use Rattle.mixed_pair_laws.proofs.pair_laws.pairs_without_walk_are_best.Goals as goal

pub returns : goal.returns
returns c p prime L F tab = (best-clear p prime L F tab, λ clear. closed-best p prime L F tab (least_set p L F) (least_set-closed p L F clear))
