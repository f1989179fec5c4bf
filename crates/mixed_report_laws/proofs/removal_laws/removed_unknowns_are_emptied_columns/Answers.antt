use Rattle.mixed_report_laws.proofs.Removals.{column-unknown, unknown-column}
use Rattle.mixed_report_laws.proofs.removal_laws.removed_unknowns_are_emptied_columns.Goals as goal

pub returns : goal.returns
returns c p prime big M A D L O lay j jl r = (unknown-column p prime M A D L O lay big j jl r, column-unknown p prime M A D L O lay big j jl r)
