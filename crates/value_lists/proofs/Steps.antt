-- Lists of the values of the symbols before a place: from place to place, and from row to row.
use Rattle.std.proofs.Common.{◌≡◌, ℕ, zero, suc, ◌+◌, ◌-◌, ◌<◌, ◌≤◌, Bool, true, false, cond, inl, inr, List, [], ◌∷◌, ◌++◌, get_or}
use Rattle.std.proofs.Common.{refl, ap, ap₂, sym, subst, ◌∙◌, arith, add-one, add-zero, length-append}
use Rattle.std.proofs.lemmas.Bool.Decides.{nat_tests}
use Rattle.std.proofs.lemmas.List.{get_or_append_left, get_or_at}
use Rattle.residue_theory.proofs.SetLaws.{differ, lt_cases}
use Rattle.residue_theory.specs.Sums.{size_on, sum_below}
use Rattle.mixed_matrices.specs.Models.{MixedMatrix}
use Rattle.value_list_laws.proofs.Listed.{number-before}
use Rattle.value_list_laws.proofs.Places.{before-next}
use Rattle.value_list_laws.specs.FixedSymbols.{IsSymbolPlace}
use Rattle.value_list_laws.specs.ListedValues.{symbols_before}
use Rattle.value_list_laws.specs.ValueLists.{before}
use Rattle.value_lists.specs.Listing.{IsListedTo}

-- the symbols of row i from j on and before l: there are none
abbrev pub IsGap : MixedMatrix → ℕ → ℕ → ℕ → Type 0
IsGap M i j l = (b : ℕ) → j ≤ b → b < l → M.symbol i b ≡ false

size-more : (X : ℕ → Bool) (n : ℕ) → size_on X (n + 1) ≡ size_on X n + cond (X n) 1 0
size-more X n = ap (size_on X) (add-one n)

size-skip : (X : ℕ → Bool) (j d : ℕ) → ((b : ℕ) → j ≤ b → b < j + d → X b ≡ false) → size_on X (j + d) ≡ size_on X j
size-skip X j zero none = ap (size_on X) (add-zero j)
size-skip X j (suc d) none = ap (size_on X) next ∙ size-more X (j + d)
    ∙ ap₂ (λ x b. x + cond b 1 0) (size-skip X j d (λ b jb bl. none b jb (omega (arith, bl)))) (none (j + d) (omega arith) (omega arith))
    ∙ add-zero (size_on X j)
  where
    next : j + suc d ≡ j + d + 1
    next = omega arith

size-gap : (X : ℕ → Bool) (j l : ℕ) → j ≤ l → ((b : ℕ) → j ≤ b → b < l → X b ≡ false) → size_on X l ≡ size_on X j
size-gap X j l le none = let far : j + (l - j) ≡ l = omega (arith, le) in
    ap (size_on X) (sym far) ∙ size-skip X j (l - j) (λ b jb bl. none b jb (omega (arith, bl, far)))

-- ---- the same symbols before
module _ (M : MixedMatrix) (i j l : ℕ) (le : j ≤ l) (gap : IsGap M i j l) where
  pub gap-before : (a b : ℕ) → IsSymbolPlace M a b → before i j a b ≡ before i l a b
  gap-before a b here = elim (lt_cases b j) [
    | inl low ↦ both_low low (omega (arith, low, le))
    | inr high ↦ elim (lt_cases b l) [
      | inl mid ↦ other_row (λ same. differ (gap b (omega (arith, high)) mid) (subst (λ k. M.symbol k b ≡ true) same here.2))
      | inr far ↦ both_high (omega (arith, far)) (omega (arith, high))
    ]
  ]
    where
      both_low : b < j → b < l → before i j a b ≡ before i l a b
      both_low low below = grind (arith, nat_tests, low, below)

      both_high : l ≤ b → j ≤ b → before i j a b ≡ before i l a b
      both_high far high = grind (arith, nat_tests, far, high)

      other_row : (a ≡ i → ⊥) → before i j a b ≡ before i l a b
      other_row ne = grind (arith, nat_tests, ne)

  pub gap-count : symbols_before M i j ≡ symbols_before M i l
  gap-count = ap (λ n. sum_below i (λ k. size_on (M.symbol k) M.columns) + n) (sym (size-gap (M.symbol i) j l le gap))

pub row-before : (M : MixedMatrix) (i a b : ℕ) → IsSymbolPlace M a b → before i M.columns a b ≡ before (i + 1) 0 a b
row-before M i a b here = turn M.columns here.1
  where
    turn : (n : ℕ) → b < n → before i n a b ≡ before (i + 1) 0 a b
    turn n bl = grind (arith, nat_tests, bl)

pub row-count : (M : MixedMatrix) (i : ℕ) → symbols_before M i M.columns ≡ symbols_before M (i + 1) 0
row-count M i = sym (add-zero (sum_below (i + 1) (λ k. size_on (M.symbol k) M.columns))
    ∙ ap (λ n. sum_below n (λ k. size_on (M.symbol k) M.columns)) (add-one i))

-- ---- lists
pub listed-move : (M : MixedMatrix) (v : ℕ → ℕ → ℕ) (i j k l : ℕ) (values : List ℕ) → symbols_before M i j ≡ symbols_before M k l →
    ((a b : ℕ) → IsSymbolPlace M a b → before i j a b ≡ before k l a b) → IsListedTo M v i j values → IsListedTo M v k l values
listed-move M v i j k l values count places at = record {
  count = at.count ∙ count;
  each = λ a b here earlier. at.each a b here (places a b here ∙ earlier);
}

pub listed-place : (M : MixedMatrix) (v : ℕ → ℕ → ℕ) (i j : ℕ) → IsSymbolPlace M i j → (values : List ℕ) (x : ℕ) → v i j ≡ x → IsListedTo M v i j values →
    IsListedTo M v i (j + 1) (values ++ x ∷ [])
listed-place M v i j here values x is at = record {
  count = let long = length-append values (x ∷ []) in
      omega (arith, long, at.count, size-more (M.symbol i) j, ap {B = ℕ} (λ b. cond b 1 0) here.2);
  each = λ a b there earlier. elim (before-next i j a b (subst (λ n. before i n a b ≡ true) (add-one j) earlier)) [
    | inl low ↦ get_or_append_left values (x ∷ []) 0 (symbols_before M a b)
        (omega (arith, at.count, number-before M i j a b there low)) ∙ at.each a b there low
    | inr same ↦ last a b same.0 same.1
  ];
}
  where
    last : (a b : ℕ) → a ≡ i → b ≡ j → get_or (values ++ x ∷ []) (symbols_before M a b) 0 ≡ v a b
    last a b p q = get_or_at values x [] 0 (symbols_before M a b) (at.count ∙ sym (ap₂ (symbols_before M) p q))
        ∙ sym is ∙ sym (ap₂ v p q)

pub listed-start : (M : MixedMatrix) (v : ℕ → ℕ → ℕ) → IsListedTo M v 0 0 []
listed-start M v = record { count = refl; each = λ a b here earlier. absurd (none a b earlier) }
  where
    none : (a b : ℕ) → before 0 0 a b ≡ true → ⊥
    none a b earlier = grind (arith, nat_tests, earlier)
