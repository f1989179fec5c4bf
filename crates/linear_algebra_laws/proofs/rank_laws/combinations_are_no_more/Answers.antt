use Rattle.linear_algebra_laws.proofs.Ranks.{size_on-combinations}
use Rattle.linear_algebra_laws.proofs.rank_laws.combinations_are_no_more.Goals as goal

pub returns : goal.returns
returns c = size_on-combinations
