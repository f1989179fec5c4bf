use Rattle.mixed_layering_laws.proofs.ScaledRows.{minus_ones}
use Rattle.mixed_layering_laws.proofs.value_laws.auxiliary_values_may_be_minus_one.Goals as goal

pub returns : goal.returns
returns c p prime M A D L O lay w free = minus_ones p prime M A D L O lay w free
