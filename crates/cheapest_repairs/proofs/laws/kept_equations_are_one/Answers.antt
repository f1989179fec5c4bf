use Rattle.cheapest_repairs.proofs.KeptLists.{kept-one}
use Rattle.cheapest_repairs.proofs.laws.kept_equations_are_one.Goals as goal

pub returns : goal.returns
returns c = kept-one
