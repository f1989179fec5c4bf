use Rattle.mixed_report_laws.proofs.Tests.{held-undetermined, undetermined-held}
use Rattle.mixed_report_laws.proofs.minimiser_tests.minimisers_tell_undetermined_unknowns.Goals as goal

pub returns : goal.returns
returns c p prime big M A D L O lay j jl = (undetermined-held p prime big M A D L O lay j jl, held-undetermined p prime big M A D L O lay j jl)
