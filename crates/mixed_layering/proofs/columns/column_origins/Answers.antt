use Rattle.mixed_layering.proofs.ColumnLaws.{columns-unknown, columns-split}
use Rattle.mixed_layering.proofs.columns.column_origins.Goals as goal

pub loop-unknown-preserved : goal.loop-unknown-preserved
loop-unknown-preserved c =
    rw c.in_ok-push.ensures.items (columns-unknown c.loop-unknown.unknown c.args.split.now c.loop-unknown.origins.items c.loop-unknown.invariant)

pub loop-equation-preserved : goal.loop-equation-preserved
loop-equation-preserved c =
    rw c.in_ok-push-2.ensures.items
    (columns-split c.args.unknowns c.args.split.now c.loop-equation.equation-index c.loop-equation.origins.items c.loop-equation.invariant)
