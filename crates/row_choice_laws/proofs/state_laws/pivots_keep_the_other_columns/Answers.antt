use Rattle.std.proofs.Common.{refl, arith}
use Rattle.row_choice_laws.proofs.LoopStates.{pivot-keeps}
use Rattle.row_choice_laws.proofs.state_laws.pivots_keep_the_other_columns.Goals as goal

pub returns : goal.returns
returns c p M A L O S G K f join R W last = (
  λ i k il kl out. refl,
  λ i T V less q same keeps. pivot-keeps p M A L O S G K f join R W last i T V (omega (arith, less)) q same keeps,
)
