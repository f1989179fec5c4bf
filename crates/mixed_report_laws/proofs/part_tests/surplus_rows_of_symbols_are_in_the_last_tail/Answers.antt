use Rattle.mixed_report_laws.proofs.Tails.{last-untouched, untouched-last}
use Rattle.mixed_report_laws.proofs.Tests.{surplus-untouched, untouched-surplus}
use Rattle.mixed_report_laws.proofs.part_tests.surplus_rows_of_symbols_are_in_the_last_tail.Goals as goal

pub returns : goal.returns
returns c p prime big M A D L O lay S U F tab G below lower K d dl = (
  λ h. untouched-last p prime L S U F tab G below lower K d dl (surplus-untouched p prime big M A D L O lay d dl h),
  λ q. untouched-surplus p prime big M A D L O lay d dl (last-untouched p prime L S U F tab G below lower K d dl q),
)
