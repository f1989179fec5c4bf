use Rattle.linear_algebra_laws.proofs.Triangular.{triangular-rank}
use Rattle.linear_algebra_laws.proofs.block_laws.diagonal_ranks_are_at_most_the_rank.Goals as goal

pub returns : goal.returns
returns c = triangular-rank
