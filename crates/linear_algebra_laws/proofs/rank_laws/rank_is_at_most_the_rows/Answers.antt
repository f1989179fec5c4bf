use Rattle.linear_algebra_laws.proofs.RankLaws.{rank-rows}
use Rattle.linear_algebra_laws.proofs.rank_laws.rank_is_at_most_the_rows.Goals as goal

pub returns : goal.returns
returns c = rank-rows
