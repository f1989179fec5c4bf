-- The values of symbols, one after another.
use Rattle.std.proofs.Common.{◌≡◌, ℕ, ◌+◌, ◌<◌, ◌≤◌, List, [], ◌∷◌, ◌++◌, length, Some}
use Rattle.std.proofs.Common.{refl, sym, ap, ◌∙◌, arith, inl, inr, ◌⊎◌, length-append}
use Rattle.std.specs.List.{slice_get}
use Rattle.std.proofs.lemmas.Option.{get_or_from_slice_get, slice_get_within, slice_get-get_or}
use Rattle.std.proofs.lemmas.List.{get_or_append_left}
use Rattle.std.proofs.Math.Seq.{get_or-append_seam}
use Rattle.residue_theory.proofs.SetLaws.{lt_cases}
use Rattle.mixed_matrices.specs.Models.{MixedMatrix}
use Rattle.mixed_model.specs.Models.{MixedModel, mixed_matrix_of}
use Rattle.value_list_laws.specs.FixedSymbols.{IsSymbolPlace}
use Rattle.value_list_laws.specs.ListedValues.{symbol_count, symbols_before}
use Rattle.value_list_laws.proofs.Listed.{number-below}
use Rattle.symbol_places.proofs.PlaceNumbers.{place-same}
use Rattle.problem_heads.specs.HeadNumbers.{HeadNumber, number_for}
use Rattle.problem_heads.specs.Problems.{AreGivenValues, place_names}

-- These are the values of the first h symbols.
pub record AreFirstValues {N : Type 0} (numbers : List (HeadNumber N)) (model : MixedModel) (h : ℕ) (values : List N) : Type 0 where
  pub count : length values ≡ h
  pub each : (i j : ℕ) → IsSymbolPlace (mixed_matrix_of model) i j → symbols_before (mixed_matrix_of model) i j < h →
      (value : N) × (number_for numbers (place_names model i j) ≡ Some value) × (slice_get values (symbols_before (mixed_matrix_of model) i j) ≡ Some value)

-- an item before one that is put last, and that one
push-earlier : {X : Type 0} (xs : List X) (x y : X) (k : ℕ) → slice_get xs k ≡ Some y → slice_get (xs ++ x ∷ []) k ≡ Some y
push-earlier xs x y k here =
    let within = slice_get_within xs k y here in
    slice_get-get_or (xs ++ x ∷ []) k y (omega (arith, within, length-append xs (x ∷ [])))
    ∙ ap Some (get_or_append_left xs (x ∷ []) y k within ∙ get_or_from_slice_get xs k y y here)

push-last : {X : Type 0} (xs : List X) (x : X) → slice_get (xs ++ x ∷ []) (length xs) ≡ Some x
push-last xs x =
    slice_get-get_or (xs ++ x ∷ []) (length xs) x (omega (arith, length-append xs (x ∷ [])))
    ∙ ap Some (get_or-append_seam xs x [] x)

module _ {N : Type 0} (numbers : List (HeadNumber N)) (model : MixedModel) where
  abbrev M : MixedMatrix
  M = mixed_matrix_of model

  pub values-start : AreFirstValues numbers model 0 []
  values-start = record { count = refl; each = λ i j at low. absurd (omega arith) }

  -- the value of one more symbol
  pub values-next : (h i j : ℕ) (values : List N) (value : N) → IsSymbolPlace M i j → symbols_before M i j ≡ h →
      number_for numbers (place_names model i j) ≡ Some value → AreFirstValues numbers model h values →
      AreFirstValues numbers model (h + 1) (values ++ value ∷ [])
  values-next h i j values value at is given are = record {
    count = omega (arith, are.count, length-append values (value ∷ []));
    each = λ k l there low. by k l there low (lt_cases (symbols_before M k l) h);
  }
    where
      here : (k l : ℕ) → (k ≡ i) × (l ≡ j) →
          (v : N) × (number_for numbers (place_names model k l) ≡ Some v) × (slice_get (values ++ value ∷ []) (symbols_before M k l) ≡ Some v)
      here k l (row, column) = (
        value,
        ap (λ n. number_for numbers (place_names model n l)) row ∙ ap (λ n. number_for numbers (place_names model i n)) column ∙ given,
        ap (λ n. slice_get (values ++ value ∷ []) (symbols_before M n l)) row
            ∙ ap (λ n. slice_get (values ++ value ∷ []) (symbols_before M i n)) column
            ∙ ap (slice_get (values ++ value ∷ [])) (is ∙ sym are.count) ∙ push-last values value,
      )

      by : (k l : ℕ) → IsSymbolPlace M k l → symbols_before M k l < h + 1 → (symbols_before M k l < h) ⊎ (h ≤ symbols_before M k l) →
          (v : N) × (number_for numbers (place_names model k l) ≡ Some v) × (slice_get (values ++ value ∷ []) (symbols_before M k l) ≡ Some v)
      by k l there low (inl earlier) =
          let (v, said, found) = are.each k l there earlier in (v, said, push-earlier values value v (symbols_before M k l) found)
      by k l there low (inr past) = here k l (place-same M i j k l at there (omega (arith, low, past, is)))

  -- and all
  pub values-all : (h : ℕ) (values : List N) → h ≡ symbol_count M → AreFirstValues numbers model h values → AreGivenValues numbers model values
  values-all h values whole are = record {
    count = are.count ∙ whole;
    each = λ i j at. are.each i j at (omega (arith, whole, number-below M i j at));
  }
