use Rattle.linear_algebra_laws.proofs.Ranks.{with_one-independent}
use Rattle.linear_algebra_laws.proofs.rank_laws.other_columns_join.Goals as goal

pub returns : goal.returns
returns c = with_one-independent
