use Rattle.closed_sets.proofs.ClosedLaws.{closed-from, reached-closed}
use Rattle.mixed_matrices.specs.Arcs.{is_end, is_free, leads_to}
use Rattle.mixed_pair_laws.proofs.Minimisers.{closed-minimiser, least_set, least_set-closed, minimiser-closed}
use Rattle.mixed_pair_laws.proofs.minimiser_laws.reached_columns_are_the_least_minimiser.Goals as goal

pub returns : goal.returns
returns c p prime L F tab clear X R = (
  closed-minimiser p prime L F tab X (reached-closed (leads_to p L F) L.columns (is_free F) (is_end p L F) clear X R),
  λ Y least j jl h. closed-from (leads_to p L F) L.columns (is_free F) (is_end p L F) Y
      (minimiser-closed p prime L F tab (least_set p L F) (least_set-closed p L F clear) Y least) j jl ((R j jl).0 h),
)
