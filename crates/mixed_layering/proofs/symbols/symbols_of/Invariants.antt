use Rattle.mixed_model.specs.Models.{mixed_matrix_of}
use Rattle.mixed_layering.specs.Places.{AreRowsOfSymbols}
use Rattle.mixed_layering.proofs.symbols.symbols_of.Given as goal

abbrev pub invariant-loop-equation : goal.invariant-loop-equation
invariant-loop-equation g l = AreRowsOfSymbols (mixed_matrix_of l.model) l.split l.equations l.equation-index l.t
