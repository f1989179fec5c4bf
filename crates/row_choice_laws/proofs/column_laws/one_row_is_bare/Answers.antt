use Rattle.row_choice_laws.proofs.LoopStates.{one-bare, one-vain}
use Rattle.row_choice_laws.proofs.column_laws.one_row_is_bare.Goals as goal

pub returns : goal.returns
returns c p M A D L O lay S F K f join s sl of_s which =
    (one-bare p M A D L O lay S F K f join s sl of_s which, one-vain p M A D L O lay S F K f join s sl of_s which)
