use Rattle.linear_algebra_laws.proofs.RankLaws.{rank-one_more}
use Rattle.linear_algebra_laws.proofs.rank_laws.one_more_column_adds_at_most_one.Goals as goal

pub returns : goal.returns
returns c p prime = rank-one_more p
