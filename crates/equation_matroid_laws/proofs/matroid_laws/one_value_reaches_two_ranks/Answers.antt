use Rattle.equation_matroid_laws.proofs.RowRanks.{shared_ranks}
use Rattle.equation_matroid_laws.proofs.matroid_laws.one_value_reaches_two_ranks.Goals as goal

pub returns : goal.returns
returns c p prime big M X Y r s R S = shared_ranks p prime M big X Y r s R S
