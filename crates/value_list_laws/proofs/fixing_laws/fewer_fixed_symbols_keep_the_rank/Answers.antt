use Rattle.value_list_laws.proofs.Runs.{fewer-keep}
use Rattle.value_list_laws.proofs.fixing_laws.fewer_fixed_symbols_keep_the_rank.Goals as goal

pub returns : goal.returns
returns c p M X Y numbers within keeps = fewer-keep p M X Y numbers within keeps
