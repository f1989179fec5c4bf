use Rattle.value_list_laws.proofs.FixedRanks.{at_most_one}
use Rattle.value_list_laws.proofs.fixing_laws.at_most_one_number_lowers_the_rank.Goals as goal

pub returns : goal.returns
returns c p prime M i j here x y first second = at_most_one p M prime i j here x y first second
