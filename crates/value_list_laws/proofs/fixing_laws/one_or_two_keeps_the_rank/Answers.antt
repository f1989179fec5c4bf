use Rattle.value_list_laws.proofs.FixedRanks.{one_or_two-keeps}
use Rattle.value_list_laws.proofs.fixing_laws.one_or_two_keeps_the_rank.Goals as goal

pub returns : goal.returns
returns c p prime M i j here = one_or_two-keeps p M prime i j here
