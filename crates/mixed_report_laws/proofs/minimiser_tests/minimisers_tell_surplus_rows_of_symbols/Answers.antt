use Rattle.mixed_report_laws.proofs.Tests.{surplus-untouched, untouched-surplus}
use Rattle.mixed_report_laws.proofs.minimiser_tests.minimisers_tell_surplus_rows_of_symbols.Goals as goal

pub returns : goal.returns
returns c p prime big M A D L O lay d dl = (surplus-untouched p prime big M A D L O lay d dl, untouched-surplus p prime big M A D L O lay d dl)
