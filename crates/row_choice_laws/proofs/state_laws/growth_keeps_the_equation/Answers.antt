use Rattle.row_choice_laws.proofs.LoopStates.{growth-keeps}
use Rattle.row_choice_laws.proofs.state_laws.growth_keeps_the_equation.Goals as goal

pub returns : goal.returns
returns c p M A D L O lay S V F G H K f kept join T s sl of_s which at col k W C rows same =
    growth-keeps p M A D L O lay S V F G H K f kept join T s sl of_s which at col k W C rows same
