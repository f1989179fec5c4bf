use Rattle.linear_algebra_laws.proofs.Bases.{rank_of-base_rows}
use Rattle.linear_algebra_laws.proofs.base_laws.bases_show_the_rank.Goals as goal

pub returns : goal.returns
returns c = rank_of-base_rows
