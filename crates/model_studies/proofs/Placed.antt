-- Values at their places, put one after another.
use Rattle.std.proofs.Common.{◌≡◌, ℕ, ◌+◌, ◌<◌, ◌≤◌, List, [], ◌∷◌, ◌++◌, length, map, take, get_or, refl, ap, sym, ◌∙◌}
use Rattle.std.proofs.lemmas.List.{map-append, take_all, take_more}
use Rattle.study_answers.specs.Values.{numbers_at}
use Rattle.study_answers.specs.declared.values.ValueAt.{ValueAt}
use Rattle.symbol_places.specs.declared.places.SymbolPlace.{SymbolPlace}

-- the first n places, and the numbers of the first n values
pub record ArePlaced {T : Type 0} (number : T → ℕ) (places : List SymbolPlace) (values : List T) (n : ℕ) (placed : List (ValueAt T)) : Type 0 where
  pub places_are : map (λ at. at.place) placed ≡ take n places
  pub values_are : numbers_at number placed ≡ map number (take n values)

module _ {T : Type 0} (number : T → ℕ) (places : List SymbolPlace) (values : List T) where
  pub placed-none : ArePlaced number places values 0 []
  placed-none = record { places_are = refl; values_are = refl }

  pub placed-more : (n : ℕ) (d : SymbolPlace) (e : T) (place : SymbolPlace) (value : T) (placed : List (ValueAt T)) → n < length places → n < length values →
      place ≡ get_or places n d → value ≡ get_or values n e → ArePlaced number places values n placed →
      ArePlaced number places values (n + 1) (placed ++ record { place = place; value = value } ∷ [])
  placed-more n d e place value placed pl vl place_is value_is so_far = record {
    places_are = map-append (λ (at : ValueAt T). at.place) placed (one ∷ []) ∙ ap (λ front. front ++ place ∷ []) so_far.places_are
        ∙ ap (λ last. take n places ++ last ∷ []) place_is ∙ sym (take_more places n d pl);
    values_are = map-append (λ (at : ValueAt T). number at.value) placed (one ∷ []) ∙ ap (λ front. front ++ number value ∷ []) so_far.values_are
        ∙ ap (λ last. map number (take n values) ++ number last ∷ []) value_is ∙ sym (map-append number (take n values) (get_or values n e ∷ []))
        ∙ ap (map number) (sym (take_more values n e vl));
  }
    where
      one : ValueAt T
      one = record { place = place; value = value }

  pub placed-places : (n : ℕ) (placed : List (ValueAt T)) → length places ≤ n → ArePlaced number places values n placed →
      map (λ at. at.place) placed ≡ places
  placed-places n placed whole are = are.places_are ∙ take_all n places whole

  pub placed-values : (n : ℕ) (placed : List (ValueAt T)) → length values ≤ n → ArePlaced number places values n placed →
      numbers_at number placed ≡ map number values
  placed-values n placed whole are = are.values_are ∙ ap (map number) (take_all n values whole)
