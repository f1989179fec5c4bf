-- The numbers of symbols, counted from 0 by rising equation and then unknown, and their places in the list of all.
use Rattle.std.proofs.Common.{◌≡◌, ℕ, zero, suc, ◌+◌, ◌-◌, ◌<◌, ◌≤◌, Bool, true, false, cond, List, length, get_or, ◌⊎◌, inl, inr, refl}
use Rattle.std.proofs.Common.{Some, ap, sym, subst, ◌∙◌, arith}
use Rattle.std.specs.List.{slice_get}
use Rattle.std.proofs.lemmas.Option.{slice_get-get_or}
use Rattle.residue_theory.specs.Sums.{size_on, sum_below}
use Rattle.residue_theory.proofs.SetLaws.{lt_cases}
use Rattle.mixed_matrices.specs.Models.{MixedMatrix}
use Rattle.value_list_laws.specs.FixedSymbols.{IsSymbolPlace}
use Rattle.value_list_laws.specs.ListedValues.{symbol_count, symbols_before}
use Rattle.value_list_laws.proofs.Listed.{number-before, number-below}
use Rattle.value_list_laws.proofs.Places.{before-column, before-row}
use Rattle.symbol_places.specs.Places.{AreSymbolPlaces, IsSymbolAfter}
use Rattle.symbol_places.specs.declared.places.SymbolPlace.{SymbolPlace}

-- the member of a set with h members before it
member_with : (A : ℕ → Bool) (n h : ℕ) → h < size_on A n → (j : ℕ) × (j < n) × (A j ≡ true) × (size_on A j ≡ h)
member_with A zero h l = absurd (omega arith)
member_with A (suc n) h l = go (A n) refl (lt_cases h (size_on A n)) (λ less. member_with A n h less)
  where
    go : (b : Bool) → A n ≡ b → (h < size_on A n) ⊎ (size_on A n ≤ h) →
        (h < size_on A n → (j : ℕ) × (j < n) × (A j ≡ true) × (size_on A j ≡ h)) →
        (j : ℕ) × (j < suc n) × (A j ≡ true) × (size_on A j ≡ h)
    go b e (inl less) ih = wider (ih less)
      where
        wider : (j : ℕ) × (j < n) × (A j ≡ true) × (size_on A j ≡ h) → (j : ℕ) × (j < suc n) × (A j ≡ true) × (size_on A j ≡ h)
        wider (j, jl, jh, q) = (j, omega arith, jh, q)
    go true e (inr more) ih = (n, omega arith, e, last (cond (A n) 1 0) (ap (λ b. cond b 1 0) e) l more)
      where
        last : (c : ℕ) → c ≡ 1 → h < size_on A n + c → size_on A n ≤ h → size_on A n ≡ h
        last c q a b = omega arith
    go false e (inr more) ih = absurd (above (cond (A n) 1 0) (ap (λ b. cond b 1 0) e) l more)
      where
        above : (c : ℕ) → c ≡ 0 → h < size_on A n + c → size_on A n ≤ h → ⊥
        above c q a b = omega arith

module _ (M : MixedMatrix) where
  abbrev in_row : ℕ → ℕ
  in_row k = size_on (M.symbol k) M.columns

  abbrev number : ℕ → ℕ → ℕ
  number i j = symbols_before M i j

  -- A symbol that has this number.
  pub record HasNumber (h : ℕ) : Type 0 where
    pub i : ℕ
    pub j : ℕ
    pub at : IsSymbolPlace M i j
    pub is : number i j ≡ h

  numbered_below : (R : ℕ) → R ≤ M.rows → (h : ℕ) → h < sum_below R in_row → HasNumber h
  numbered_below zero le h l = absurd (omega arith)
  numbered_below (suc R) le h l = go (lt_cases h (sum_below R in_row)) (λ less. numbered_below R (omega arith) h less)
    where
      go : (h < sum_below R in_row) ⊎ (sum_below R in_row ≤ h) → (h < sum_below R in_row → HasNumber h) → HasNumber h
      go (inl less) ih = ih less
      go (inr more) ih = here (member_with (M.symbol R) M.columns (h - sum_below R in_row) (omega arith))
        where
          here : (j : ℕ) × (j < M.columns) × (M.symbol R j ≡ true) × (size_on (M.symbol R) j ≡ h - sum_below R in_row) → HasNumber h
          here (j, jl, jh, q) = record { i = R; j = j; at = (omega arith, jl, jh); is = omega arith }

  -- each number below the count is that of a symbol
  pub numbered : (h : ℕ) → h < symbol_count M → HasNumber h
  numbered h l = numbered_below M.rows (omega arith) h l

  -- and of one alone
  pub place-same : (i j k l : ℕ) → IsSymbolPlace M i j → IsSymbolPlace M k l → number k l ≡ number i j → (k ≡ i) × (l ≡ j)
  place-same i j k l at there same = elim (lt_cases k i) [
    | inl less ↦ absurd (omega (arith, same, number-before M i j k l there (before-row i j k l less)))
    | inr ge ↦ elim (lt_cases i k) [
      | inl more ↦ absurd (omega (arith, same, number-before M k l i j at (before-row k l i j more)))
      | inr le ↦ elim (lt_cases l j) [
        | inl less ↦ absurd (omega (arith, same, number-before M i j k l there (before-column i j k l (omega arith) less)))
        | inr right ↦ elim (lt_cases j l) [
          | inl more ↦ absurd (omega (arith, same, number-before M k l i j at (before-column k l i j (omega arith) more)))
          | inr left ↦ (omega arith, omega arith)
        ]
      ]
    ]
  ]

  -- ---- what the list of all places tells of one
  pub place-listed : (seen places : List SymbolPlace) → seen ≡ places → AreSymbolPlaces M places → (h : ℕ) (d : SymbolPlace) →
      h < length seen → IsSymbolAfter M h (get_or seen h d)
  place-listed seen places same are h d low = let listed = subst (AreSymbolPlaces M) (sym same) are in listed.each h d low

  module _ (places : List SymbolPlace) (are : AreSymbolPlaces M places) where
    -- a symbol has its place there
    pub number-within : (i j : ℕ) → IsSymbolPlace M i j → number i j < length places
    number-within i j at = omega (arith, are.count, number-below M i j at)

    -- which is told at its number
    pub place-at : (i j : ℕ) (d : SymbolPlace) → IsSymbolPlace M i j → get_or places (number i j) d ≡ record { equation = i; unknown = j }
    place-at i j d at = go (are.each (number i j) d (number-within i j at))
      where
        found : SymbolPlace
        found = get_or places (number i j) d

        go : IsSymbolPlace M found.equation found.unknown × (number found.equation found.unknown ≡ number i j) →
            found ≡ record { equation = i; unknown = j }
        go (there, is) =
            let same = place-same i j found.equation found.unknown at there is in
            λ k. record { equation = same.0 k; unknown = same.1 k }

    pub place-found : (i j : ℕ) → IsSymbolPlace M i j → slice_get places (number i j) ≡ Some (record { equation = i; unknown = j })
    place-found i j at =
        let place : SymbolPlace = record { equation = i; unknown = j } in
        slice_get-get_or places (number i j) place (number-within i j at) ∙ ap Some (place-at i j place at)
