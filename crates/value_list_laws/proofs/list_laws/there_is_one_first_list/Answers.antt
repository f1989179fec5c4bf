use Rattle.value_list_laws.proofs.Lists.{one-first}
use Rattle.value_list_laws.proofs.list_laws.there_is_one_first_list.Goals as goal

pub returns : goal.returns
returns c p prime M = one-first p prime M
