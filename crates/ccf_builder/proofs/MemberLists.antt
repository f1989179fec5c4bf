-- Rising lists of numbers.
use Rattle.std.proofs.Common.{◌≡◌, ℕ, ◌+◌, ◌<◌, ◌≤◌, Bool, true, false, ◌||◌, eqb, List, [], ◌∷◌, ◌++◌, length}
use Rattle.std.proofs.Common.{get_or, inl, inr, refl, ap, sym, ◌∙◌, subst, arith}
use Rattle.std.proofs.lemmas.List.{get_or_append_left, get_or_push, length_push}
use Rattle.std.proofs.lemmas.List.Elements.{All-from_get_or}
use Rattle.residue_theory.proofs.SumLaws.{nat_cases}
use Rattle.residue_theory.proofs.SetLaws.{either_cases, either-first, either-second, eqb_true, eqb_from, lt_cases}
use Rattle.cert_text.specs.Ranges.{AreRising}
use Rattle.residue_theory.specs.Sets.{has}
use Rattle.cert_text.proofs.PrintedRules.{has-below}
use Rattle.ccf_builder.specs.Placings.{ListsBelow}

pub has-push : (xs : List ℕ) (x k : ℕ) → has (xs ++ x ∷ []) k ≡ (has xs k || eqb x k)
has-push [] x k = or_false (eqb x k)
  where
    or_false : (b : Bool) → (b || false) ≡ b
    or_false true = refl
    or_false false = refl
has-push (y ∷ xs) x k = ap (λ b. eqb y k || b) (has-push xs x k) ∙ joined (eqb y k) (has xs k) (eqb x k)
  where
    joined : (a b c : Bool) → (a || (b || c)) ≡ ((a || b) || c)
    joined true b c = refl
    joined false b c = refl

-- one more number, at the end
pub rising-push : (n m x : ℕ) (xs : List ℕ) → AreRising n xs → n ≤ x → x < m → AreRising m (xs ++ x ∷ [])
rising-push n m x xs are from low = record {
  rising = λ k kl.
      let long : length (xs ++ x ∷ []) ≡ length xs + 1 = length_push xs x in
      let here : k < length xs = omega (arith, kl, long) in
      let at_k : get_or (xs ++ x ∷ []) k 0 ≡ get_or xs k 0 = get_or_append_left xs (x ∷ []) 0 k here in
      elim (lt_cases (k + 1) (length xs)) [
        | inl less ↦
            let at_next : get_or (xs ++ x ∷ []) (k + 1) 0 ≡ get_or xs (k + 1) 0 = get_or_append_left xs (x ∷ []) 0 (k + 1) less in
            omega (arith, at_k, at_next, are.rising k less)
        | inr more ↦
            let last : length xs ≡ k + 1 = omega (arith, more, here) in
            let at_next : get_or (xs ++ x ∷ []) (k + 1) 0 ≡ x = get_or_push xs x 0 (k + 1) last in
            omega (arith, at_k, at_next, are.below k 0 here, from)
      ];
  below = All-from_get_or (λ y. y < m) (xs ++ x ∷ []) 0 (λ k kl.
      let long : length (xs ++ x ∷ []) ≡ length xs + 1 = length_push xs x in
      elim (lt_cases k (length xs)) [
        | inl less ↦
            let at_k : get_or (xs ++ x ∷ []) k 0 ≡ get_or xs k 0 = get_or_append_left xs (x ∷ []) 0 k less in
            omega (arith, at_k, are.below k 0 less, from, low)
        | inr more ↦
            let last : length xs ≡ k = omega (arith, more, kl, long) in
            let at_k : get_or (xs ++ x ∷ []) k 0 ≡ x = get_or_push xs x 0 k last in
            omega (arith, at_k, low)
      ]);
}

pub rising-wider : (n m : ℕ) (xs : List ℕ) → n ≤ m → AreRising n xs → AreRising m xs
rising-wider n m xs more are = record { rising = are.rising; below = All-from_get_or (λ y. y < m) xs 0 (λ k kl. omega (arith, are.below k 0 kl, more)) }

module _ (P : ℕ → Type 0) where
  pub lists-none : ListsBelow P 0 []
  lists-none = record {
    rising = record {
      rising = λ k kl. absurd (omega (arith, kl));
      below =
          λ k d kl. absurd (omega (arith, kl));
    };
    exact = λ x low. absurd (omega (arith, low));
  }

  -- one number more, of which P is true
  pub lists-more : (n : ℕ) (list : List ℕ) → ListsBelow P n list → P n → ListsBelow P (n + 1) (list ++ n ∷ [])
  lists-more n list lists is = record {
    rising = rising-push n (n + 1) n list lists.rising (omega arith) (omega arith);
    exact = λ x low. elim (nat_cases x n) [
      | inl same ↦ (λ _. subst P (sym same) is, λ _. has-push list n x ∙ either-second (has list x) (eqb n x) (eqb_from n x (sym same)))
      | inr other ↦
          let before : x < n = omega (arith, low, other) in (
            λ h. elim (either_cases (has list x) (eqb n x) (sym (has-push list n x) ∙ h)) [
              | inl old ↦ (lists.exact x before).0 old
              | inr new ↦ absurd (other (sym (eqb_true n x new)))
            ],
            λ is_so. has-push list n x ∙ either-first (has list x) (eqb n x) ((lists.exact x before).1 is_so),
          )
    ];
  }

  -- one number more, of which P is not true
  pub lists-same : (n : ℕ) (list : List ℕ) → ListsBelow P n list → (P n → ⊥) → ListsBelow P (n + 1) list
  lists-same n list lists not_so = record {
    rising = rising-wider n (n + 1) list (omega arith) lists.rising;
    exact = λ x low. elim (nat_cases x n) [
      | inl same ↦ (λ h. absurd (omega (arith, same, has-below n list x lists.rising.below h)), λ is_so. absurd (not_so (subst P same is_so)))
      | inr other ↦ lists.exact x (omega (arith, low, other))
    ];
  }

  -- numbers up to m, of which P is not true
  pub lists-past : (n m : ℕ) (list : List ℕ) → ListsBelow P n list → n ≤ m → ((x : ℕ) → n ≤ x → x < m → P x → ⊥) →
      ListsBelow P m list
  lists-past n m list lists more none = record {
    rising = rising-wider n m list more lists.rising;
    exact = λ x low. elim (lt_cases x n) [
      | inl before ↦ lists.exact x before
      | inr after ↦ (
        λ h. absurd (omega (arith, after, has-below n list x lists.rising.below h)),
        λ is_so. absurd (none x after low is_so),
      )
    ];
  }
