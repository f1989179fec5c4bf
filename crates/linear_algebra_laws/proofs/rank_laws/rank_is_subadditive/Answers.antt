use Rattle.linear_algebra_laws.proofs.RankLaws.{rank-subadditive}
use Rattle.linear_algebra_laws.proofs.rank_laws.rank_is_subadditive.Goals as goal

pub returns : goal.returns
returns c = rank-subadditive
