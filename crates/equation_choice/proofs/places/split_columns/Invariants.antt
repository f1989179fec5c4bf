use Rattle.equation_choice.proofs.EquationPlaces.{Splits, TellsBelow}
use Rattle.equation_choice.proofs.places.split_columns.Given as goal

abbrev pub invariant-loop-col : goal.invariant-loop-col
invariant-loop-col g l = TellsBelow (Splits l.layered.column_origins) l.n l.col l.columns.items
