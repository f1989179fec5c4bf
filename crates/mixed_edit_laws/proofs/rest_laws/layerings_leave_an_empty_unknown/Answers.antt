use Rattle.mixed_edit_laws.proofs.Rests.{unknown-layering, unknown-out}
use Rattle.mixed_edit_laws.proofs.rest_laws.layerings_leave_an_empty_unknown.Goals as goal

pub returns : goal.returns
returns c p M A D L O u layering last no_constant no_symbol = (
  unknown-layering p M A D L O u layering last no_constant no_symbol,
  unknown-out p M A D L O u layering last no_constant no_symbol,
)
