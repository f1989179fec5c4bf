use Rattle.linear_algebra_laws.proofs.Ranks.{rank_exists, rank-unique}
use Rattle.linear_algebra_laws.proofs.rank_laws.each_set_has_one_rank.Goals as goal

pub returns : goal.returns
returns c p prime a m n X =
    let found = rank_exists p prime a m n X in
    (found.0, found.1, λ s other. rank-unique p a m n X s found.0 other found.1)
