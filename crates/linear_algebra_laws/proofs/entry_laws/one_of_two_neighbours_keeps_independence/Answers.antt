use Rattle.linear_algebra_laws.proofs.OneOrTwo.{one_of_next}
use Rattle.linear_algebra_laws.proofs.entry_laws.one_of_two_neighbours_keeps_independence.Goals as goal

pub returns : goal.returns
returns c = one_of_next
