use Rattle.mixed_report_laws.proofs.Tails.{stays-used, used-stays}
use Rattle.mixed_report_laws.proofs.Tests.{rho-surplus, surplus-rho}
use Rattle.mixed_report_laws.proofs.part_tests.surplus_rows_of_constants_are_used_in_the_last_tail.Goals as goal

pub returns : goal.returns
returns c p prime big M A D L O lay S U F tab G below lower K e el no_t = (
  λ h. stays-used p prime L S U F tab G below lower K e el (surplus-rho p prime big M A D L O lay e el no_t h),
  λ used. rho-surplus p prime big M A D L O lay e el no_t (used-stays p prime L S U F tab G below lower K e el used),
)
