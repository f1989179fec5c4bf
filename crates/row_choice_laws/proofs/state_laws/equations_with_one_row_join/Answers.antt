use Rattle.row_choice_laws.proofs.LoopStates.{one-row-joins}
use Rattle.row_choice_laws.proofs.state_laws.equations_with_one_row_join.Goals as goal

pub returns : goal.returns
returns c p M A D L O lay S F K f kept new single = one-row-joins p M A D L O lay S F K f kept new single
