use Rattle.std.proofs.Common.{◌+◌, subst, sym}
use Rattle.minimiser_lattice.specs.Parts.{part_in}
use Rattle.minimiser_lattice.specs.Views.{parts_in}
use Rattle.ccf_builder.specs.Tabulations.{Tabulates}
use Rattle.ccf_builder.proofs.Tabulating.{tabulates-push}
use Rattle.ccf_builder.proofs.placing.column_parts.Goals as goal

pub loop-column-preserved : goal.loop-column-preserved
loop-column-preserved c =
    let f = part_in (parts_in c.args.lattice.now) in
    subst (Tabulates f (c.loop-column.column + 1)) (sym c.in_ok-push.ensures.items)
    (tabulates-push f c.loop-column.column c.loop-column.parts.items c.part_of.result c.loop-column.invariant c.part_of.ensures)
