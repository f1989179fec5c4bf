use Rattle.row_choice_laws.proofs.Joining.{rows-independent}
use Rattle.row_choice_laws.proofs.row_laws.rows_with_columns_are_independent.Goals as goal

pub returns : goal.returns
returns c p prime big M A D L O lay S U F tab K on rows used = rows-independent p prime big M A D L O lay S U F tab K on rows used
