use Rattle.cheapest_repairs.proofs.KeptLists.{all-kept}
use Rattle.cheapest_repairs.proofs.laws.all_are_kept_where_none_is_surplus.Goals as goal

pub returns : goal.returns
returns c = all-kept
