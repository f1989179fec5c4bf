use Rattle.mixed_form_laws.proofs.Canonical.{block-lower, lower-block}
use Rattle.mixed_form_laws.proofs.canonical_laws.checked_lists_are_canonical.Goals as goal

pub returns : goal.returns
returns c p prime L F tab G below lower K k l kl ll =
    (lower-block p prime L F tab G below lower K k l kl ll, block-lower p prime L F tab G below lower K k l kl ll)
