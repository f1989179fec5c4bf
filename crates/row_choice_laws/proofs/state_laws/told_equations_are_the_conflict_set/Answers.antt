use Rattle.row_choice_laws.proofs.Told.{told-conflict}
use Rattle.row_choice_laws.proofs.state_laws.told_equations_are_the_conflict_set.Goals as goal

pub returns : goal.returns
returns c p prime big M A D L O lay B choice rows f fl new S U F tab join W reach C itself outside told =
    told-conflict p prime big M A D L O lay B choice rows f fl new S U F tab join W reach C itself outside told
