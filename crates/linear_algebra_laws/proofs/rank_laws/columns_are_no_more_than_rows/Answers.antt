use Rattle.linear_algebra_laws.proofs.RankLaws.{independent-rows}
use Rattle.linear_algebra_laws.proofs.rank_laws.columns_are_no_more_than_rows.Goals as goal

pub returns : goal.returns
returns c = independent-rows
