use Rattle.linear_algebra_laws.proofs.PartLaws.{part-rank}
use Rattle.linear_algebra_laws.proofs.block_laws.parts_have_at_most_the_rank.Goals as goal

pub returns : goal.returns
returns c = part-rank
