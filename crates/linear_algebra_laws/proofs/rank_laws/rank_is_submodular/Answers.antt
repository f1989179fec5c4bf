use Rattle.linear_algebra_laws.proofs.RankLaws.{rank-submodular}
use Rattle.linear_algebra_laws.proofs.rank_laws.rank_is_submodular.Goals as goal

pub returns : goal.returns
returns c = rank-submodular
