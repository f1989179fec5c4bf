-- Rising lists, and what they hold.
use Rattle.std.proofs.Common.{◌≡◌, ◌≢◌, ℕ, zero, suc, ◌+◌, ◌<◌, ◌≤◌, Bool, true, false, ◌||◌, List, [], ◌∷◌, ◌++◌, length, get_or, nat_eq}
use Rattle.std.proofs.Common.{refl, sym, ◌∙◌, ap, subst, ◌⊎◌, inl, inr, Result, Ok, Err, is_ok, arith, length-append}
use Rattle.std.proofs.lemmas.Bool.Decides.{nat_tests}
use Rattle.std.proofs.lemmas.List.Folds.{list_any_at, list_any-append}
use Rattle.std.proofs.lemmas.List.Sorted.{searched}
use Rattle.std.proofs.Math.Seq.{get_or-append_seam}
use Rattle.std.proofs.Math.ListN.{get_or-append}
use Rattle.std.specs.List.Sorted.{IsStrictlyIncreasing, IsBinarySearchResult}
use Rattle.std.specs.Ordering.{nat_cmp}
use Rattle.std.specs.Result.{MatchResult}
use Rattle.residue_theory.specs.Sets.{has}
use Rattle.sparse_t.specs.Lists.{AreAllBelow}

nat_eq-same : (a b : ℕ) → a ≡ b → nat_eq a b ≡ true
nat_eq-same a b e = grind (arith, nat_tests)

pub nat_eq-apart : (a b : ℕ) → a ≢ b → nat_eq a b ≡ false
nat_eq-apart a b ne = grind (arith, nat_tests)

pub lt_cases : (i j : ℕ) → (i < j) ⊎ (j ≤ i)
lt_cases i j = grind arith

pub nat_eq-itself : (a : ℕ) → nat_eq a a ≡ true
nat_eq-itself a = nat_eq-same a a refl

pub has-at : (list : List ℕ) (k j : ℕ) → k < length list → get_or list k 0 ≡ j → has list j ≡ true
has-at list k j l e = list_any_at (λ item. nat_eq item j) list k 0 l (nat_eq-same (get_or list k 0) j e)

pub has-none : (list : List ℕ) (j : ℕ) → ((k : ℕ) → k < length list → get_or list k 0 ≢ j) → has list j ≡ false
has-none [] j none = refl
has-none (x ∷ list) j none = rw (nat_eq-apart x j (none 0 (omega arith)), has-none list j (λ k l. none (suc k) (omega arith))) refl

pub nat_cases : (i j : ℕ) → (i ≡ j) ⊎ (i ≢ j)
nat_cases i j = grind arith

-- where what a list holds stands in it
pub has-member : (list : List ℕ) (j : ℕ) → has list j ≡ true → (k : ℕ) × (k < length list) × (get_or list k 0 ≡ j)
has-member [] j h = absurd (differ h)
  where
    differ : false ≡ true → ⊥
    differ e = cc
has-member (x ∷ list) j h = go (nat_cases x j) (has-member list j)
  where
    go : (x ≡ j) ⊎ (x ≢ j) → (has list j ≡ true → (k : ℕ) × (k < length list) × (get_or list k 0 ≡ j)) → (k : ℕ)
        × (k < length (x ∷ list)) × (get_or (x ∷ list) k 0 ≡ j)
    go (inl q) _ = (0, omega arith, q)
    go (inr ne) rest = let found = rest (rw (nat_eq-apart x j ne) at h) in (suc found.0, omega (arith, found.1), found.2)

-- one item more
pub has-append : (list : List ℕ) (item j : ℕ) → has (list ++ item ∷ []) j ≡ (has list j || nat_eq item j)
has-append list item j = list_any-append (λ x. nat_eq x j) list (item ∷ []) ∙ ap (λ b. has list j || b) (last (nat_eq item j))
  where
    last : (b : Bool) → (b || false) ≡ b
    last true = refl
    last false = refl

-- a later item of a rising list is greater
pub rises : (list : List ℕ) → IsStrictlyIncreasing list → (i j : ℕ) → i < j → j < length list → get_or list i 0 < get_or list j 0
rises list up i zero less l = absurd (omega arith)
rises list up i (suc j) less l = go (lt_cases i j) (λ le. rises list up i j le (omega arith))
  where
    step : get_or list j 0 < get_or list (suc j) 0
    step = subst (λ v. get_or list j 0 < get_or list v 0) (omega arith) (up j (omega arith))

    go : (i < j) ⊎ (j ≤ i) → (i < j → get_or list i 0 < get_or list j 0) → get_or list i 0 < get_or list (suc j) 0
    go (inl le) before = omega (arith, before le, step)
    go (inr ge) _ = subst (λ v. get_or list v 0 < get_or list (suc j) 0) (omega arith) step

pub rising-append : (list : List ℕ) (item : ℕ) → IsStrictlyIncreasing list → AreAllBelow item list → IsStrictlyIncreasing (list ++ item ∷ [])
rising-append list item up below k l = go (lt_cases (k + 1) (length list))
  where
    go : (k + 1 < length list) ⊎ (length list ≤ k + 1) → get_or (list ++ item ∷ []) k 0 < get_or (list ++ item ∷ []) (k + 1) 0
    go (inl less) = rw (get_or-append list (item ∷ []) 0 k (omega arith), get_or-append list (item ∷ []) 0 (k + 1) less) (up k less)
    go (inr ge) = let last : k + 1 ≡ length list = omega (arith, length-append list (item ∷ []), l) in
        let here : k < length list = omega arith in
        rw (get_or-append list (item ∷ []) 0 k here)
        (subst (λ v. get_or list k 0 < get_or (list ++ item ∷ []) v 0) (sym last)
        (rw (get_or-append_seam list item [] 0) (below k here)))

pub below-append : (n m : ℕ) (list : List ℕ) (item : ℕ) → AreAllBelow n list → n ≤ m → item < m → AreAllBelow m (list ++ item ∷ [])
below-append n m list item below le less k l = go (lt_cases k (length list))
  where
    go : (k < length list) ⊎ (length list ≤ k) → get_or (list ++ item ∷ []) k 0 < m
    go (inl early) = rw (get_or-append list (item ∷ []) 0 k early) (omega (arith, below k early))
    go (inr ge) = let last : k ≡ length list = omega (arith, length-append list (item ∷ []), l) in
        subst (λ v. get_or (list ++ item ∷ []) v 0 < m) (sym last) (rw (get_or-append_seam list item [] 0) less)

-- what a binary search finds
pub has-searched : (list : List ℕ) (number : ℕ) (r : Result ℕ ℕ) → IsStrictlyIncreasing list →
    IsBinarySearchResult (λ y. nat_cmp y number) list r → is_ok r ≡ has list number
has-searched list number r up found = go r (searched list number r found rising)
  where
    rising : (i j : ℕ) → i ≤ j → j < length list → get_or list i 0 ≤ get_or list j 0
    rising i j le l = elim (lt_cases i j) [
      | inl less ↦ omega (arith, rises list up i j less l)
      | inr ge ↦ let same : i ≡ j = omega arith in subst (λ v. get_or list v 0 ≤ get_or list j 0) (sym same) (omega arith)
    ]

    go : (r : Result ℕ ℕ) → MatchResult r (λ i. (i < length list) × (get_or list i 0 ≡ number))
        (λ i. (i ≤ length list) × ((k : ℕ) → k < i → get_or list k 0 < number)
        × ((k : ℕ) → i ≤ k → k < length list → number < get_or list k 0)) →
        is_ok r ≡ has list number
    go (Ok i) (l, e) = sym (has-at list i number l e)
    go (Err i) (le, low, high) = sym
        (has-none list number (λ k l q. elim (lt_cases k i)
        [ inl less ↦ omega (arith, low k less) | inr ge ↦ omega (arith, high k ge l) ]))
