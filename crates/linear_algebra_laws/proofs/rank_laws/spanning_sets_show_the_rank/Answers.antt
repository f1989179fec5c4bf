use Rattle.linear_algebra_laws.proofs.Ranks.{rank_of-basis}
use Rattle.linear_algebra_laws.proofs.rank_laws.spanning_sets_show_the_rank.Goals as goal

pub returns : goal.returns
returns c = rank_of-basis
