use Rattle.row_choice_laws.proofs.LoopStates.{nothing-kept}
use Rattle.row_choice_laws.proofs.state_laws.nothing_is_kept.Goals as goal

pub returns : goal.returns
returns c p prime L O S F same no_base no_match = nothing-kept p prime L O S F same no_base no_match
