use Rattle.mixed_model.specs.Models.{mixed_matrix_of}
use Rattle.mixed_layering.proofs.PlaceLaws.{rows-next}
use Rattle.mixed_layering.proofs.symbols.symbols_of.Goals as goal

pub loop-equation-preserved : goal.loop-equation-preserved
loop-equation-preserved g c =
    rw (c.in_ok-push_row.ensures.ok, c.deref.ensures)
    (rows-next (mixed_matrix_of c.args.model.now) c.args.split.now c.args.equations.now c.loop-equation.equation-index c.loop-equation.t
    c.in_ok-columns.columns.items c.loop-equation.invariant c.in_ok-columns.ensures)
