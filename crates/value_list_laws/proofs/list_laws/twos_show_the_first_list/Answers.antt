use Rattle.value_list_laws.proofs.Lists.{twos-first}
use Rattle.value_list_laws.proofs.list_laws.twos_show_the_first_list.Goals as goal

pub returns : goal.returns
returns c p prime M v small reaches twos = twos-first p prime M v small reaches twos
