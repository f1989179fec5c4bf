use Rattle.mixed_pair_laws.proofs.RemovedRows.{emptied_unknown, left_unknown}
use Rattle.mixed_pair_laws.proofs.structural_rank_laws.emptied_unknowns_are_left_out.Goals as goal

pub returns : goal.returns
returns c p prime M j jl r = (left_unknown p prime M j jl r, emptied_unknown p prime M j jl r)
