use Rattle.row_choice_laws.proofs.LoopStates.{given-kept, given-tableau}
use Rattle.row_choice_laws.proofs.state_laws.matches_are_given_up.Goals as goal

pub returns : goal.returns
returns c p M A D L O lay S U F G H tab K f kept new t k tl kl of_t of_z move entries same_base same_rows gone = (
  given-tableau p M A D L O lay S F K f kept new U G tab t k tl kl of_t of_z move H entries same_base same_rows gone,
  given-kept p M A D L O lay S F K f kept new U G tab t k tl kl of_t of_z move H entries same_base same_rows gone,
)
