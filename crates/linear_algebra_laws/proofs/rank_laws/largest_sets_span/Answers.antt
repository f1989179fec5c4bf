use Rattle.linear_algebra_laws.proofs.Ranks.{combination_of-largest}
use Rattle.linear_algebra_laws.proofs.rank_laws.largest_sets_span.Goals as goal

pub returns : goal.returns
returns c = combination_of-largest
