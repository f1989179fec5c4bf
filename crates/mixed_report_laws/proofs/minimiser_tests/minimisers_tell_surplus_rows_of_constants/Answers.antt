use Rattle.mixed_report_laws.proofs.Tests.{rho-surplus, surplus-rho}
use Rattle.mixed_report_laws.proofs.minimiser_tests.minimisers_tell_surplus_rows_of_constants.Goals as goal

pub returns : goal.returns
returns c p prime big M A D L O lay e el no_t = (surplus-rho p prime big M A D L O lay e el no_t, rho-surplus p prime big M A D L O lay e el no_t)
