-- Rising lists of the members of a set.
use Rattle.std.proofs.Common.{◌≡◌, ℕ, ◌+◌, ◌<◌, ◌≤◌, ◌⊎◌, true, false, eqb, List, [], ◌∷◌, ◌++◌, length, get_or, inl, inr, refl, sym, subst, arith}
use Rattle.std.specs.List.Sorted.{IsStrictlyIncreasing}
use Rattle.std.proofs.lemmas.List.{get_or_append_left, get_or_push, length_push}
use Rattle.residue_theory.proofs.SetLaws.{differ, either_cases, either-first, either-second, eqb_true, eqb_from, lt_cases}
use Rattle.residue_theory.proofs.SumLaws.{nat_cases}
use Rattle.residue_theory.specs.Sets.{has}
use Rattle.part_arcs.proofs.FormLaws.{some-has}
use Rattle.solve_plan.specs.Marks.{AreMembersOf}

pub members-none : (A : ℕ → Type 0) → AreMembersOf 0 A []
members-none A = record {
  rising = λ k kl. absurd (omega (arith, kl));
  exact = λ i. (λ h. absurd (differ refl h), λ m. absurd (omega (arith, m.0)));
}

-- what a list holds with a number more
pushed-cases : (xs : List ℕ) (n i : ℕ) → has (xs ++ n ∷ []) i ≡ true → (has xs i ≡ true) ⊎ (n ≡ i)
pushed-cases [] n i h = elim (either_cases (eqb n i) false h) [
  | inl here ↦ inr (eqb_true n i here)
  | inr later ↦ absurd (differ refl later)
]
pushed-cases (x ∷ xs) n i h = elim (either_cases (eqb x i) (has (xs ++ n ∷ []) i) h) [
  | inl here ↦ inl (either-first (eqb x i) (has xs i) here)
  | inr later ↦ elim (pushed-cases xs n i later) [
    | inl old ↦ inl (either-second (eqb x i) (has xs i) old)
    | inr new ↦ inr new
  ]
]

pushed-old : (xs : List ℕ) (n i : ℕ) → has xs i ≡ true → has (xs ++ n ∷ []) i ≡ true
pushed-old [] n i h = absurd (differ refl h)
pushed-old (x ∷ xs) n i h = elim (either_cases (eqb x i) (has xs i) h) [
  | inl here ↦ either-first (eqb x i) (has (xs ++ n ∷ []) i) here
  | inr later ↦ either-second (eqb x i) (has (xs ++ n ∷ []) i) (pushed-old xs n i later)
]

pushed-new : (xs : List ℕ) (n i : ℕ) → n ≡ i → has (xs ++ n ∷ []) i ≡ true
pushed-new [] n i same = either-first (eqb n i) false (eqb_from n i same)
pushed-new (x ∷ xs) n i same = either-second (eqb x i) (has (xs ++ n ∷ []) i) (pushed-new xs n i same)

rising-push : (n : ℕ) (xs : List ℕ) → IsStrictlyIncreasing xs → ((k : ℕ) → k < length xs → get_or xs k 0 < n) → IsStrictlyIncreasing (xs ++ n ∷ [])
rising-push n xs rising below k kl =
    let long : length (xs ++ n ∷ []) ≡ length xs + 1 = length_push xs n in
    let here : k < length xs = omega (arith, kl, long) in
    let at_k : get_or (xs ++ n ∷ []) k 0 ≡ get_or xs k 0 = get_or_append_left xs (n ∷ []) 0 k here in
    elim (lt_cases (k + 1) (length xs)) [
      | inl less ↦
          let at_next : get_or (xs ++ n ∷ []) (k + 1) 0 ≡ get_or xs (k + 1) 0 = get_or_append_left xs (n ∷ []) 0 (k + 1) less in
          omega (arith, at_k, at_next, rising k less)
      | inr high ↦
          let last : length xs ≡ k + 1 = omega (arith, high, here) in
          let at_next : get_or (xs ++ n ∷ []) (k + 1) 0 ≡ n = get_or_push xs n 0 (k + 1) last in
          omega (arith, at_k, at_next, below k here)
    ]

module _ (n : ℕ) (A : ℕ → Type 0) (list : List ℕ) (are : AreMembersOf n A list) where
  -- n is a member
  pub members-put : A n → AreMembersOf (n + 1) A (list ++ n ∷ [])
  members-put is = record {
    rising = rising-push n list are.rising (λ k kl. ((are.exact (get_or list k 0)).0 (some-has list k (get_or list k 0) kl refl)).0);
    exact = λ i. (
      λ h. elim (pushed-cases list n i h) [
        | inl old ↦ let m = (are.exact i).0 old in (omega (arith, m.0), m.1)
        | inr new ↦ (omega (arith, new), subst A new is)
      ],
      λ m. elim (nat_cases n i) [
        | inl same ↦ pushed-new list n i same
        | inr other ↦ pushed-old list n i ((are.exact i).1 (omega (arith, m.0, other), m.1))
      ],
    );
  }

  -- n is none
  pub members-skip : (A n → ⊥) → AreMembersOf (n + 1) A list
  members-skip none = record {
    rising = are.rising;
    exact = λ i. (
      λ h. let m = (are.exact i).0 h in (omega (arith, m.0), m.1),
      λ m. elim (nat_cases n i) [
        | inl same ↦ absurd (none (subst A (sym same) m.1))
        | inr other ↦ (are.exact i).1 (omega (arith, m.0, other), m.1)
      ],
    );
  }

-- none from n on below m is a member
pub members-run : (n m : ℕ) (A : ℕ → Type 0) (list : List ℕ) → n ≤ m → AreMembersOf n A list → ((i : ℕ) → n ≤ i → i < m → A i → ⊥) →
    AreMembersOf m A list
members-run n m A list within are none = record {
  rising = are.rising;
  exact = λ i. (
    λ h. let one = (are.exact i).0 h in (omega (arith, one.0, within), one.1),
    λ one. elim (lt_cases i n) [
      | inl low ↦ (are.exact i).1 (low, one.1)
      | inr high ↦ absurd (none i high one.0 one.1)
    ],
  );
}
