use Rattle.linear_algebra_laws.proofs.Transposes.{rank-transposed}
use Rattle.linear_algebra_laws.proofs.rank_laws.transposes_have_the_rank.Goals as goal

pub returns : goal.returns
returns c = rank-transposed
