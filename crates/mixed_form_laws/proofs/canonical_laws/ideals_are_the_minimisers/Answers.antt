use Rattle.mixed_form_laws.proofs.IdealLaws.{ideal-minimiser, minimiser-ideal}
use Rattle.mixed_form_laws.proofs.canonical_laws.ideals_are_the_minimisers.Goals as goal

pub returns : goal.returns
returns c p prime L F tab G below lower K X =
    (minimiser-ideal p prime L F tab G below lower K X, λ I. ideal-minimiser p prime L F tab G below lower K X I.0 I.1)
