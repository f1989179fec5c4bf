use Rattle.std.proofs.Common.{sym}
use Rattle.mixed_pair_laws.proofs.Minimisers.{closed-equal, closed-minimiser, equal-closed, least_set, least_set-closed, minimiser-closed}
use Rattle.mixed_pair_laws.proofs.minimiser_laws.minimum_is_size_less_columns.Goals as goal

pub returns : goal.returns
returns c p prime L F tab clear X r R = (
  (λ least. sym (closed-equal p prime L F tab X r R (minimiser-closed p prime L F tab (least_set p L F) (least_set-closed p L F clear) X least))),
  λ e. closed-minimiser p prime L F tab X (equal-closed p prime L F tab X r R (sym e)),
)
