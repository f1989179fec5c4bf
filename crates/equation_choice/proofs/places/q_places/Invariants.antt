use Rattle.equation_choice.proofs.EquationPlaces.{Gives, TellsBelow}
use Rattle.equation_choice.proofs.places.q_places.Given as goal

abbrev pub invariant-loop-row : goal.invariant-loop-row
invariant-loop-row g l = TellsBelow (Gives l.layered.q_origins) l.n l.row l.places.items
