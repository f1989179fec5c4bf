use Rattle.std.proofs.Common.{arith}
use Rattle.mixed_report_laws.proofs.Tests.{held-undetermined, undetermined-held}
use Rattle.mixed_report_laws.proofs.part_tests.undetermined_unknowns_are_in_the_first_tail.Goals as goal

pub returns : goal.returns
returns c p prime big M A D L O lay G canonical j jl = (
  λ h. (canonical.first j (omega (arith, lay.columns, jl))).1 (undetermined-held p prime big M A D L O lay j jl h),
  λ q. held-undetermined p prime big M A D L O lay j jl ((canonical.first j (omega (arith, lay.columns, jl))).0 q),
)
