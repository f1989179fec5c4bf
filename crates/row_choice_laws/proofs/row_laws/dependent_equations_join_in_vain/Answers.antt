use Rattle.row_choice_laws.proofs.Dependent.{dependent-vain}
use Rattle.row_choice_laws.proofs.row_laws.dependent_equations_join_in_vain.Goals as goal

pub returns : goal.returns
returns c p prime big M A D L O lay S U F E tab B f fl rows new kept join ind dep =
    dependent-vain p prime big M A D L O lay S U F E tab B f fl rows new kept join ind dep
