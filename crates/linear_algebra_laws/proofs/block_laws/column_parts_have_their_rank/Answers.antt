use Rattle.linear_algebra_laws.proofs.PartLaws.{part_columns-rank}
use Rattle.linear_algebra_laws.proofs.block_laws.column_parts_have_their_rank.Goals as goal

pub returns : goal.returns
returns c = part_columns-rank
