use Rattle.mixed_model.specs.Models.{mixed_matrix_of}
use Rattle.symbol_places.specs.PlacesBefore.{AreSymbolPlacesBefore}
use Rattle.symbol_places.proofs.places.symbol_places.Given as goal

abbrev pub invariant-loop-equation : goal.invariant-loop-equation
invariant-loop-equation g l = AreSymbolPlacesBefore (mixed_matrix_of l.model) l.equation 0 l.places.items
