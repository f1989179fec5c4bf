use Rattle.mixed_report_laws.proofs.Removals.{equation-symbols, symbols-equation}
use Rattle.mixed_report_laws.proofs.removal_laws.removed_equations_are_emptied_rows_of_symbols.Goals as goal

pub returns : goal.returns
returns c p prime big M A D L O lay d dl r = (equation-symbols p prime M A D L O lay big d dl r, symbols-equation p prime M A D L O lay big d dl r)
