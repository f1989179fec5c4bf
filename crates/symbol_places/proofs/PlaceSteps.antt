-- The places of symbols, from place to place.
use Rattle.std.proofs.Common.{◌≡◌, ℕ, zero, suc, ◌+◌, ◌<◌, ◌≤◌, Bool, false, cond, List, [], ◌∷◌, ◌++◌, length, get_or}
use Rattle.std.proofs.Common.{sym, ap, subst, ◌∙◌, arith, inl, inr, ◌⊎◌, length-append}
use Rattle.std.proofs.lemmas.List.{get_or_append_left}
use Rattle.std.proofs.Math.Seq.{get_or-append_seam}
use Rattle.residue_theory.specs.Sums.{size_on, sum_below}
use Rattle.residue_theory.proofs.SetLaws.{le_cases, lt_cases}
use Rattle.mixed_matrices.specs.Models.{MixedMatrix}
use Rattle.value_list_laws.specs.FixedSymbols.{IsSymbolPlace}
use Rattle.symbol_places.specs.Places.{IsSymbolAfter}
use Rattle.symbol_places.specs.PlacesBefore.{AreSymbolPlacesBefore}
use Rattle.symbol_places.specs.declared.places.SymbolPlace.{SymbolPlace}

-- a set that has no member from j up to n
size-gap : (A : ℕ → Bool) (j n : ℕ) → j ≤ n → ((k : ℕ) → j ≤ k → k < n → A k ≡ false) → size_on A n ≡ size_on A j
size-gap A j zero low none = let e : zero ≡ j = omega (arith, low) in ap (size_on A) e
size-gap A j (suc n) low none = by (le_cases j (suc n) low) (λ less. size-gap A j n (omega arith) (λ k at below. none k at (omega arith)))
  where
    more : (one : ℕ) → one ≡ 0 → size_on A n ≡ size_on A j → size_on A n + one ≡ size_on A j
    more one is same = omega (arith, is, same)

    by : (j ≡ suc n) ⊎ (j < suc n) → (j < suc n → size_on A n ≡ size_on A j) → size_on A (suc n) ≡ size_on A j
    by (inl same) before = ap (size_on A) (sym same)
    by (inr less) before = more (cond (A n) 1 0) (ap (λ b. cond b 1 0) (none n (omega arith) (omega arith))) (before less)

module _ (M : MixedMatrix) where
  abbrev in_row : ℕ → ℕ
  in_row k = size_on (M.symbol k) M.columns

  -- no symbol from j up to n
  pub places-gap : (i j n : ℕ) (places : List SymbolPlace) → j ≤ n → ((k : ℕ) → j ≤ k → k < n → M.symbol i k ≡ false) →
      AreSymbolPlacesBefore M i j places → AreSymbolPlacesBefore M i n places
  places-gap i j n places low none are = record {
    count = are.count ∙ ap (λ size. sum_below i in_row + size) (sym (size-gap (M.symbol i) j n low none));
    each = are.each;
  }

  -- a symbol
  pub places-next : (i j : ℕ) (places : List SymbolPlace) → IsSymbolPlace M i j → AreSymbolPlacesBefore M i j places →
      AreSymbolPlacesBefore M i (suc j) (places ++ record { equation = i; unknown = j } ∷ [])
  places-next i j places at are = record {
    count = long (cond (M.symbol i j) 1 0) (ap (λ b. cond b 1 0) at.2);
    each = λ h d low. by h d low (lt_cases h (length places));
  }
    where
      place : SymbolPlace
      place = record { equation = i; unknown = j }

      long : (one : ℕ) → one ≡ 1 → length (places ++ place ∷ []) ≡ sum_below i in_row + (size_on (M.symbol i) j + one)
      long one is = omega (arith, is, are.count, length-append places (place ∷ []))

      by : (h : ℕ) (d : SymbolPlace) → h < length (places ++ place ∷ []) → (h < length places) ⊎ (length places ≤ h) →
          IsSymbolAfter M h (get_or (places ++ place ∷ []) h d)
      by h d low (inl earlier) = subst (IsSymbolAfter M h) (sym (get_or_append_left places (place ∷ []) d h earlier)) (are.each h d earlier)
      by h d low (inr past) =
          let last : length places ≡ h = omega (arith, low, past, length-append places (place ∷ [])) in
          subst (λ n. IsSymbolAfter M n (get_or (places ++ place ∷ []) n d)) last
          (subst (IsSymbolAfter M (length places)) (sym (get_or-append_seam places place [] d)) (at, sym are.count))

  -- a whole row
  pub places-turn : (i : ℕ) (places : List SymbolPlace) → AreSymbolPlacesBefore M i M.columns places → AreSymbolPlacesBefore M (suc i) 0 places
  places-turn i places are = record { count = omega (arith, are.count); each = are.each }
