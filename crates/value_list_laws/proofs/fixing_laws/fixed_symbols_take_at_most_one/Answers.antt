use Rattle.value_list_laws.proofs.FixedRanks.{takes-one}
use Rattle.value_list_laws.proofs.fixing_laws.fixed_symbols_take_at_most_one.Goals as goal

pub returns : goal.returns
returns c p prime M i j here x r s R S = takes-one p M prime i j here x r s R S
