use Rattle.linear_algebra_laws.proofs.Stacked.{above-rows}
use Rattle.linear_algebra_laws.proofs.block_laws.stacked_columns_are_at_most_rank_and_rows.Goals as goal

pub returns : goal.returns
returns c = above-rows
