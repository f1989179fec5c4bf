-- The symbols at the places before one.
use Rattle.std.specs.Prelude.{ℕ, ◌<◌, ◌≡◌, List, length, slice_index_or}
use Rattle.mixed_matrices.specs.Models.{MixedMatrix}
use Rattle.value_list_laws.specs.ListedValues.{symbols_before}
use Rattle.symbol_places.specs.Places.{IsSymbolAfter}
use Rattle.symbol_places.specs.declared.places.SymbolPlace.{SymbolPlace}

-- these are the places of all symbols that stand before (i, j), by rising equation and then unknown
pub record AreSymbolPlacesBefore (M : MixedMatrix) (i j : ℕ) (places : List SymbolPlace) : Type 0 where
  pub count : length places ≡ symbols_before M i j
  pub each : (h : ℕ) (d : SymbolPlace) → h < length places → IsSymbolAfter M h (slice_index_or places h d)
