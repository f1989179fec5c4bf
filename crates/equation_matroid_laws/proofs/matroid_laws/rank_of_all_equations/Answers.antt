use Rattle.equation_matroid_laws.proofs.WholeModels.{all-from, all-to}
use Rattle.equation_matroid_laws.proofs.matroid_laws.rank_of_all_equations.Goals as goal

pub returns : goal.returns
returns c p M r = (all-to p M r, all-from p M r)
