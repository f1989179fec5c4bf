use Rattle.value_list_laws.proofs.Lists.{first-greedy, greedy-first}
use Rattle.value_list_laws.proofs.list_laws.greedy_lists_are_the_first.Goals as goal

pub returns : goal.returns
returns c p prime M v = (greedy-first p prime M v, first-greedy p prime M v)
