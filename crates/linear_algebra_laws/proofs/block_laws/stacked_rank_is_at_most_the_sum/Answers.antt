use Rattle.linear_algebra_laws.proofs.Stacked.{rank-above}
use Rattle.linear_algebra_laws.proofs.block_laws.stacked_rank_is_at_most_the_sum.Goals as goal

pub returns : goal.returns
returns c = rank-above
