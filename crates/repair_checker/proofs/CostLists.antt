-- Lists of the equations that cost so much: their members, and how one goes on.
use Rattle.std.proofs.Common.{◌≡◌, ◌≢◌, ℕ, ◌+◌, ◌<◌, ◌≤◌, Bool, true, false, cond, ◌&&◌, ◌||◌, ◌⊎◌, inl, inr, eqb, leb, not}
use Rattle.std.proofs.Common.{List, [], ◌∷◌, ◌++◌, length, get_or, filter, refl, ap, ap₂, sym, subst, ◌∙◌}
use Rattle.std.proofs.Common.{arith, map-id, append-nil, add-one, zero-add, Result, Ok, Err, is_ok, is_err}
use Rattle.std.proofs.lemmas.Bool.Decides.{nat_tests}
use Rattle.std.proofs.lemmas.List.Elements.{All-filter, filter-append}
use Rattle.std.proofs.lemmas.List.FromFn.{get_or-range_with_len, length-range_with_len, map-range_with_len_more}
use Rattle.std.proofs.lemmas.List.Kept.{IsStrictlyIncreasing-filter}
use Rattle.std.specs.List.{range_with_len}
use Rattle.residue_theory.specs.Sets.{both, has}
use Rattle.residue_theory.specs.Sums.{size_on, sum_on}
use Rattle.residue_theory.proofs.SetLaws.{eqb_from}
use Rattle.residue_theory.proofs.SumLaws.{nat_cases, sum_on-same}
use Rattle.sparse_t.proofs.ListLaws.{has-at}
use Rattle.cert_text.specs.Ranges.{AreRising}
use Rattle.certificate_laws.proofs.RisingLists.{members-counted}
use Rattle.repair_checker.specs.Costs.{all_costing, costing_of}

-- ---- what a filter keeps
keeps-one : (P : ℕ → Bool) (x : ℕ) (xs : List ℕ) (b : Bool) → P x ≡ b → (j : ℕ) → has (cond b (x ∷ xs) xs) j ≡ ((b && eqb x j) || has xs j)
keeps-one P x xs true is j = refl
keeps-one P x xs false is j = refl

pub has-filter : (P : ℕ → Bool) (xs : List ℕ) (j : ℕ) → has (filter P xs) j ≡ (has xs j && P j)
has-filter P [] j = refl
has-filter P (x ∷ xs) j = keeps-one P x (filter P xs) (P x) refl j ∙ ap (λ h. (P x && eqb x j) || h) (has-filter P xs j)
    ∙ at (nat_cases x j)
  where
    there : (b h : Bool) → ((b && true) || (h && b)) ≡ ((true || h) && b)
    there true h = refl
    there false true = refl
    there false false = refl

    elsewhere : (b h c : Bool) → ((b && false) || (h && c)) ≡ ((false || h) && c)
    elsewhere true h c = refl
    elsewhere false h c = refl

    apart : x ≢ j → eqb x j ≡ false
    apart ne = grind (arith, nat_tests)

    at : (x ≡ j) ⊎ (x ≢ j) → ((P x && eqb x j) || (has xs j && P j)) ≡ ((eqb x j || has xs j) && P j)
    at (inl q) = subst (λ i. ((P x && eqb x i) || (has xs i && P i)) ≡ ((eqb x i || has xs i) && P i)) q
        (subst (λ t. ((P x && t) || (has xs x && P x)) ≡ ((t || has xs x) && P x)) (sym (eqb_from x x refl)) (there (P x) (has xs x)))
    at (inr ne) = subst (λ t. ((P x && t) || (has xs j && P j)) ≡ ((t || has xs j) && P j)) (sym (apart ne)) (elsewhere (P x) (has xs j) (P j))

pub rising-filter : (P : ℕ → Bool) (n : ℕ) (xs : List ℕ) → AreRising n xs → AreRising n (filter P xs)
rising-filter P n xs are = record {
  rising = IsStrictlyIncreasing-filter P xs are.rising;
  below = All-filter P (λ x. x < n) xs are.below;
}

-- ---- all equations, rising
pub range-rising : (n : ℕ) → AreRising n (range_with_len 0 n)
range-rising n = record {
  rising = λ k kl. let long = length-range_with_len 0 n in
      omega (arith, get_or-range_with_len 0 n k 0 (omega (arith, long, kl)), get_or-range_with_len 0 n (k + 1) 0 (omega (arith, long, kl)));
  below = λ k d kl. let long = length-range_with_len 0 n in
      omega (arith, get_or-range_with_len 0 n k d (omega (arith, long, kl)), long, kl);
}

range-has : (n j : ℕ) → j < n → has (range_with_len 0 n) j ≡ true
range-has n j jl = has-at (range_with_len 0 n) j j (omega (arith, length-range_with_len 0 n, jl)) (get_or-range_with_len 0 n j 0 jl ∙ zero-add j)

range-more : (k : ℕ) → range_with_len 0 (k + 1) ≡ range_with_len 0 k ++ k ∷ []
range-more k = sym (map-id (range_with_len 0 (k + 1))) ∙ map-range_with_len_more (λ x. x) 0 k k (zero-add k)
    ∙ ap (λ xs. xs ++ k ∷ []) (map-id (range_with_len 0 k))

leb-true : (x y : ℕ) → x ≤ y → leb x y ≡ true
leb-true x y le = grind (arith, nat_tests)

leb-false : (x y : ℕ) → y < x → leb x y ≡ false
leb-false x y lt = grind (arith, nat_tests)

-- ---- a sum over the equations that a list does not hold
pub sum-step : (X : ℕ → Bool) (f : ℕ → ℕ) (k total now : ℕ) (b : Bool) → X k ≡ b → total ≡ sum_on X k f → now ≡ total + cond b (f k) 0 →
    now ≡ sum_on X (k + 1) f
sum-step X f k total now b is sum added = subst (λ n. now ≡ sum_on X n f) (sym (add-one k)) (added ∙ ap₂ (λ x c. x + cond c (f k) 0) sum (sym is))

pub other-of : {A B : Type 0} (answer : Result A B) (err held : Bool) → err ≡ is_err answer → is_ok answer ≡ held → not held ≡ err
other-of (Ok x) err held one two = ap not (sym two) ∙ sym one
other-of (Err x) err held one two = ap not (sym two) ∙ sym one

module _ (costs : List ℕ) (least : ℕ) where
  -- one equation more is looked at
  pub costing-more : (k : ℕ) → costing_of costs least (range_with_len 0 (k + 1))
      ≡ costing_of costs least (range_with_len 0 k) ++ cond (leb least (get_or costs k 0)) (k ∷ []) []
  costing-more k = ap (costing_of costs least) (range-more k)
      ∙ filter-append (λ e. leb least (get_or costs e 0)) (range_with_len 0 k) (k ∷ [])

  pub grows : (k : ℕ) (items now : List ℕ) → items ≡ costing_of costs least (range_with_len 0 k) → least ≤ get_or costs k 0 →
      now ≡ items ++ k ∷ [] → now ≡ costing_of costs least (range_with_len 0 (k + 1))
  grows k items now is enough pushed = let told : leb least (get_or costs k 0) ≡ true = leb-true least (get_or costs k 0) enough in
      pushed ∙ ap (λ xs. xs ++ k ∷ []) is
      ∙ ap (λ b. costing_of costs least (range_with_len 0 k) ++ cond b (k ∷ []) []) (sym told) ∙ sym (costing-more k)

  pub stays : (k : ℕ) (items : List ℕ) → items ≡ costing_of costs least (range_with_len 0 k) → get_or costs k 0 < least →
      items ≡ costing_of costs least (range_with_len 0 (k + 1))
  stays k items is less = let told : leb least (get_or costs k 0) ≡ false = leb-false least (get_or costs k 0) less in
      is ∙ sym (append-nil (costing_of costs least (range_with_len 0 k)))
      ∙ ap (λ b. costing_of costs least (range_with_len 0 k) ++ cond b (k ∷ []) []) (sym told) ∙ sym (costing-more k)

  pub all-rising : AreRising (length costs) (all_costing costs least)
  all-rising = rising-filter (λ e. leb least (get_or costs e 0)) (length costs) (range_with_len 0 (length costs)) (range-rising (length costs))

  pub all-has : (j : ℕ) → j < length costs → has (all_costing costs least) j ≡ leb least (get_or costs j 0)
  all-has j jl = has-filter (λ e. leb least (get_or costs e 0)) (range_with_len 0 (length costs)) j
      ∙ ap (λ h. h && leb least (get_or costs j 0)) (range-has (length costs) j jl)

  -- how many of a rising list cost so much
  pub costing-counted : (xs : List ℕ) → AreRising (length costs) xs →
      length (costing_of costs least xs) ≡ size_on (both (has xs) (λ e. leb least (get_or costs e 0))) (length costs)
  costing-counted xs are =
      sym (members-counted (length costs) (costing_of costs least xs) (rising-filter (λ e. leb least (get_or costs e 0)) (length costs) xs are))
      ∙ sum_on-same (has (costing_of costs least xs)) (both (has xs) (λ e. leb least (get_or costs e 0))) (length costs) (λ _. 1)
      (λ j _. has-filter (λ e. leb least (get_or costs e 0)) xs j)
