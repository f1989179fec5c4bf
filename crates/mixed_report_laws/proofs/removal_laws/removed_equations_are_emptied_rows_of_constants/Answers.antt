use Rattle.mixed_report_laws.proofs.Removals.{constants-equation, equation-constants}
use Rattle.mixed_report_laws.proofs.removal_laws.removed_equations_are_emptied_rows_of_constants.Goals as goal

pub returns : goal.returns
returns c p prime big M A D L O lay e el no_t r =
    (equation-constants p prime M A D L O lay big e el no_t r, constants-equation p prime M A D L O lay big e el no_t r)
