use Rattle.mixed_form_laws.proofs.Canonical.{below-block, block-below}
use Rattle.mixed_form_laws.proofs.canonical_laws.checked_order_is_canonical.Goals as goal

pub returns : goal.returns
returns c p prime L F tab G below lower K k l kl ll =
    (below-block p prime L F tab G below lower K k l kl ll, block-below p prime L F tab G below lower K k l kl ll)
