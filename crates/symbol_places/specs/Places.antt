-- The symbols of a model, one after another.
use Rattle.std.specs.Prelude.{ℕ, ◌<◌, ◌≡◌, List, length, slice_index_or}
use Rattle.mixed_matrices.specs.Models.{MixedMatrix}
use Rattle.value_list_laws.specs.FixedSymbols.{IsSymbolPlace}
use Rattle.value_list_laws.specs.ListedValues.{symbol_count, symbols_before}
use Rattle.symbol_places.specs.declared.places.SymbolPlace.{SymbolPlace}

-- the place is that of a symbol, before which h symbols stand
abbrev pub IsSymbolAfter : MixedMatrix → ℕ → SymbolPlace → Type 0
IsSymbolAfter M h place =
    IsSymbolPlace M place.equation place.unknown × (symbols_before M place.equation place.unknown ≡ h)

-- these are the places of all symbols, by rising equation and then unknown
pub record AreSymbolPlaces (M : MixedMatrix) (places : List SymbolPlace) : Type 0 where
  pub count : length places ≡ symbol_count M
  pub each : (h : ℕ) (d : SymbolPlace) → h < length places → IsSymbolAfter M h (slice_index_or places h d)
