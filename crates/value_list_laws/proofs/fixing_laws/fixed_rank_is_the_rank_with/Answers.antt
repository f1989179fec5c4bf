use Rattle.value_list_laws.proofs.FixedRanks.{fixed-with, with-fixed}
use Rattle.value_list_laws.proofs.fixing_laws.fixed_rank_is_the_rank_with.Goals as goal

pub returns : goal.returns
returns c p M X numbers r = (fixed-with p M X numbers r, with-fixed p M X numbers r)
