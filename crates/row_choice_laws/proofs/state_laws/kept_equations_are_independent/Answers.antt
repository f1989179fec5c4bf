use Rattle.row_choice_laws.proofs.Joining.{rows-independent}
use Rattle.row_choice_laws.proofs.state_laws.kept_equations_are_independent.Goals as goal

pub returns : goal.returns
returns c p prime big M A D L O lay S U F tab K kept rows = rows-independent p prime big M A D L O lay S U F tab K kept.on rows kept.used
