use Rattle.row_choice_laws.proofs.LoopStates.{joined-tableau, split-joins}
use Rattle.row_choice_laws.proofs.state_laws.split_equations_join.Goals as goal

pub returns : goal.returns
returns c p M A D L O lay S U F G tab K f kept new t k tl kl of_t of_z move = (
  joined-tableau p M A D L O lay S F K f kept new U G tab t k tl kl of_t of_z move,
  split-joins p M A D L O lay S F K f kept new U G tab t k tl kl of_t of_z move,
)
