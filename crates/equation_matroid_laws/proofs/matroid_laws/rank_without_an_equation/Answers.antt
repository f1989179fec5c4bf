use Rattle.mixed_pair_laws.proofs.RemovedRows.{emptied_equation, left_equation}
use Rattle.equation_matroid_laws.proofs.matroid_laws.rank_without_an_equation.Goals as goal

pub returns : goal.returns
returns c p prime M e el r = (emptied_equation p prime M e el r, left_equation p prime M e el r)
