use Rattle.minimiser_lattice.specs.Parts.{part_in}
use Rattle.minimiser_lattice.specs.Views.{parts_in}
use Rattle.ccf_builder.specs.Tabulations.{Tabulates}
use Rattle.ccf_builder.proofs.placing.column_parts.Given as goal

abbrev pub invariant-loop-column : goal.invariant-loop-column
invariant-loop-column l = Tabulates (part_in (parts_in l.lattice)) l.column l.parts.items
