use Rattle.linear_algebra_laws.proofs.RankLaws.{independent-extends}
use Rattle.linear_algebra_laws.proofs.rank_laws.independent_sets_extend.Goals as goal

pub returns : goal.returns
returns c = independent-extends
