use Rattle.mixed_report_laws.proofs.Removals.{equation_rows}
use Rattle.mixed_report_laws.proofs.removal_laws.each_equation_has_a_row.Goals as goal

pub returns : goal.returns
returns c M L O lay i il = equation_rows M L O lay i il
