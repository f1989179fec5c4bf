-- Lists of values that are the same at each symbol.
use Rattle.std.proofs.Common.{◌≡◌, ℕ, List, length, slice_index_or}
use Rattle.std.proofs.Common.{sym, subst, ◌∙◌, arith}
use Rattle.std.proofs.lemmas.List.{ext_get_or}
use Rattle.mixed_matrices.specs.Models.{MixedMatrix}
use Rattle.value_list_laws.specs.FixedSymbols.{IsSymbolPlace}
use Rattle.value_list_laws.specs.ListedValues.{symbol_count, values_of}
use Rattle.symbol_places.proofs.PlaceNumbers.{HasNumber, numbered}

-- lists with the same values at the symbols are the same
pub lists-same : (M : MixedMatrix) (list other : List ℕ) → length list ≡ symbol_count M → length other ≡ symbol_count M →
    ((i j : ℕ) → IsSymbolPlace M i j → values_of M list i j ≡ values_of M other i j) → list ≡ other
lists-same M list other long also same =
    ext_get_or 0 list other (long ∙ sym also) (λ h l. go h (numbered M h (omega (arith, long, l))))
  where
    go : (h : ℕ) → HasNumber M h → slice_index_or list h 0 ≡ slice_index_or other h 0
    go h N = subst (λ k. slice_index_or list k 0 ≡ slice_index_or other k 0) N.is (same N.i N.j N.at)
