use Rattle.std.proofs.Common.{◌≡◌, ◌++◌}
use Rattle.mixed_model.specs.Models.{mixed_matrix_of, row_of}
use Rattle.symbol_places.specs.PlacesBefore.{AreSymbolPlacesBefore}
use Rattle.symbol_places.proofs.RowSteps.{SeenPlaces}
use Rattle.symbol_places.proofs.places.push_row.Given as goal

abbrev pub invariant-loop-entry : goal.invariant-loop-entry
invariant-loop-entry g l = record {
  can_next : (goal.iterator-loop-entry g).can_next l.entry-iterator;
  is_finite : (goal.iterator-loop-entry g).is_finite l.entry-iterator;
  split : row_of l.model l.equation ≡ l.yielded ++ l.entry-iterator;
  so_far : AreSymbolPlacesBefore (mixed_matrix_of l.model) l.equation 0 l.fn.places.items
      → SeenPlaces (mixed_matrix_of l.model) l.equation l.yielded l.places.items;
}
