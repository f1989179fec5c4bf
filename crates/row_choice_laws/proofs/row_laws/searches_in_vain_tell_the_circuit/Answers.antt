use Rattle.row_choice_laws.proofs.Told.{circuit-told}
use Rattle.row_choice_laws.proofs.row_laws.searches_in_vain_tell_the_circuit.Goals as goal

pub returns : goal.returns
returns c p prime big M A D L O lay S U F tab B f fl row new join ind W reach =
    circuit-told p prime big M A D L O lay S U F tab B f fl row new join ind W reach
