use Rattle.mixed_pair_laws.proofs.MinMax.{best-clear}
use Rattle.mixed_pair_laws.proofs.Minimisers.{closed-best, least_set, least_set-closed}
use Rattle.mixed_pair_laws.proofs.TableauParts.{tableau}
use Rattle.mixed_form_laws.proofs.CheckedParts.{checked-clear}
use Rattle.mixed_form_laws.proofs.RightParts.{kept-right, right-kept}
use Rattle.mixed_form_laws.proofs.canonical_laws.rules_are_kept_by_right_parts.Goals as goal

pub returns : goal.returns
returns c p prime L S U F tab G below lower within = (
  λ K. (
    closed-best p prime L F (tableau p prime L S U F tab) (least_set p L F) (least_set-closed p L F (checked-clear p L F G below lower K)),
    kept-right p prime L S U F tab G below lower K,
  ),
  λ (best, right). right-kept p prime L S U F tab (best-clear p prime L F (tableau p prime L S U F tab) best) G
      right.form right.canonical below lower right.order right.lists within,
)
