-- The equations and the unknowns that a report names are there.
use Rattle.std.proofs.Common.{◌<◌, ℕ}
use Rattle.std.specs.List.{All}
use Rattle.mixed_matrices.specs.Models.{MixedMatrix}
use Rattle.solve_plan.proofs.MarkSets.{members-low}
use Rattle.solve_plan.specs.Reports.{IsReportOf}
use Rattle.solve_plan.specs.declared.told.Report.{Report}

pub surplus_within : (p : ℕ) (M : MixedMatrix) (told : Report) → IsReportOf p M told → All (λ equation. equation < M.rows) told.surplus
surplus_within p M told reports = members-low M.rows _ told.surplus reports.surplus

pub undetermined_within : (p : ℕ) (M : MixedMatrix) (told : Report) → IsReportOf p M told → All (λ unknown. unknown < M.columns) told.undetermined
undetermined_within p M told reports = members-low M.columns _ told.undetermined reports.undetermined
