use Rattle.mixed_pair_laws.proofs.RemovedRows.{emptied_equation, left_equation}
use Rattle.mixed_pair_laws.proofs.structural_rank_laws.emptied_equations_are_left_out.Goals as goal

pub returns : goal.returns
returns c p prime M i il r = (left_equation p prime M i il r, emptied_equation p prime M i il r)
